use Rattle.std.proofs.Common.{◌≡◌, ◌⊎◌, ℕ, ◌+◌, List, [], ◌∷◌, ◌++◌, map, arith, sym, ap, subst, ◌∙◌, inl, inr}
use mathlib.Core.Option.{none}
use Rattle.std.specs.List.{AllByRecursion as Each}
use Rattle.atomic_table.specs.Table.{step, rest}
use Rattle.call_turn.specs.Rule.{Grown, knowing, grown_by}
use Rattle.call_turn.specs.declared.Entry.{Entry}
use Rattle.call_turn.proofs.Keeps.{learns, takes_object, counts, give, passes}
use Rattle.call_turn.proofs.Ends.{rests, acted, idle_again}
use Rattle.call_turn.proofs.shared.Turn.act.Goals as goal

abbrev in_hand : {O : Type 0} → List (ℕ × O) → O → O
in_hand [] d = d
in_hand (x ∷ xs) d = x.1

same_object : {O : Type 0} (c : List (ℕ × O)) (o p : O) → c ≡ (0, o) ∷ [] → c ≡ (0, p) ∷ rest c → p ≡ o
same_object c o p e f = ap (λ l. in_hand l o) (sym f ∙ e)

grows : {Order Answer : Type 0} (lane : ℕ) (held before now : List (Entry Order Answer)) (e : Entry Order Answer) → before ≡ held → e.lane ≡ lane → (now ≡ before) ⊎ (now ≡ before ++ e ∷ []) → Grown lane held now
grows lane held before now e same is (inl stays) = inl (stays ∙ same)
grows lane held before now e same is (inr more) = inr (e, is, more ∙ ap (λ es. es ++ e ∷ []) same)

pub load-requires : goal.load-requires
load-requires g c = let w = c.wait-ticket.ensures in let t = c.args.self.now.table.shared in
    (w.place.0 ∙ c.requires.place, omega (arith, c.args.self.now.sized.0), learns g.O.OneThread.history g.O.OneThread.start t.key.lanes t.key.object.value _ _ _ (step 0 2 0 0 none) (ap (λ v. v.stage) w.view))

pub load-requires-2 : goal.load-requires-2
load-requires-2 g c = let w = c.wait-ticket.ensures in let l = c.load.ensures in let t = c.args.self.now.table.shared in
    (l.0 ∙ (w.place.0 ∙ c.requires.place), omega (arith, c.args.self.now.sized.0), takes_object g.O.OneThread.history g.O.OneThread.start t.key.lanes t.key.object.value _ _ _ (step 0 2 0 0 none) (ap (λ v. v.stage) l.2.3) (l.2.0 ∙ w.place.1))

pub store-requires : goal.store-requires
store-requires g c =
    let w = c.wait-ticket.ensures in
    let l = c.load.ensures in
    let t = c.load-2.ensures in
    let table = c.args.self.now.table.shared in
    let history = g.O.OneThread.history in
    let own = (rests g.O.OneThread.history g.O.OneThread.start 0 c.args.self.now.table.shared.key.object.value c.args.pass.now.lane c.args.pass.now.step c.args.pass.now.seat.me c.args.pass.now.idle).own in
    let owns = ap (λ v. v.owns) t.2.4 ∙ (ap (λ v. v.owns) l.2.3 ∙ ap (λ as'. map (knowing c.load.result) as') (ap (λ v. v.owns) w.view ∙ (rests g.O.OneThread.history g.O.OneThread.start 0 c.args.self.now.table.shared.key.object.value c.args.pass.now.lane c.args.pass.now.step c.args.pass.now.seat.me c.args.pass.now.idle).owns)) in
    let object = same_object c.load-2.new.seat.me.1 t.2.0 c.slot_mut-object.result.now t.2.1 c.slot_mut-object.ensures.value in
    let before : history c.slot_mut-object.result.now ≡ c.load-2.new.seat.me.0.held = ap history object ∙ (t.2.2 ∙ sym (ap (λ v. v.held) t.2.4)) in
    let grown : Grown own.lane c.load-2.new.seat.me.0.held (history c.act-answer.new.self) =
    grows own.lane c.load-2.new.seat.me.0.held (history c.slot_mut-object.result.now) (history c.act-answer.new.self) _ before (sym (rests g.O.OneThread.history g.O.OneThread.start 0 c.args.self.now.table.shared.key.object.value c.args.pass.now.lane c.args.pass.now.step c.args.pass.now.seat.me c.args.pass.now.idle).lane) c.act-answer.ensures.history in (
      t.0 ∙ (l.0 ∙ (w.place.0 ∙ c.requires.place)),
      omega (arith, c.args.self.now.sized.0),
      counts history g.O.OneThread.start table.key.lanes table.key.object.value _ _ (c.load-2.new.seat.me.0, (0, c.act-answer.new.self) ∷ rest c.load-2.new.seat.me.1) (step 0 2 0 0 none) c.entries-entries.result c.act-answer.new.self (knowing c.load.result own)
          (ap (λ v. v.stage) t.2.4) (ap (λ h. (0, c.act-answer.new.self) ∷ rest h) t.2.1) owns grown c.entries-entries.ensures,
    )

pub load-requires-3 : goal.load-requires-3
load-requires-3 g c =
    let w = c.wait-ticket.ensures in
    let l = c.load.ensures in
    let t = c.load-2.ensures in
    let n = c.store.ensures in
    let table = c.args.self.now.table.shared in
    let history = g.O.OneThread.history in
    let own = (rests g.O.OneThread.history g.O.OneThread.start 0 c.args.self.now.table.shared.key.object.value c.args.pass.now.lane c.args.pass.now.step c.args.pass.now.seat.me c.args.pass.now.idle).own in
    let learned = ap (λ v. v.owns) l.2.3 ∙ ap (λ as'. map (knowing c.load.result) as') (ap (λ v. v.owns) w.view ∙ (rests g.O.OneThread.history g.O.OneThread.start 0 c.args.self.now.table.shared.key.object.value c.args.pass.now.lane c.args.pass.now.step c.args.pass.now.seat.me c.args.pass.now.idle).owns) in
    let owns = ap (λ v. v.owns) t.2.4 ∙ learned in
    let object = same_object c.load-2.new.seat.me.1 t.2.0 c.slot_mut-object.result.now t.2.1 c.slot_mut-object.ensures.value in
    let back : c.act-answer.new.self ≡ n.2.0 = ap (λ h. in_hand h n.2.0) n.2.1 in
    let start : g.O.OneThread.start n.2.0 ≡ own.start =
    ap g.O.OneThread.start (sym back) ∙ (c.act-answer.ensures.start ∙ (ap g.O.OneThread.start object ∙ (subst (λ as'. Each (λ a. g.O.OneThread.start t.2.0 ≡ a.start) as') learned t.2.3).0)) in (
      n.0 ∙ (t.0 ∙ (l.0 ∙ (w.place.0 ∙ c.requires.place))),
      omega (arith, c.args.self.now.sized.0),
      give history g.O.OneThread.start table.key.lanes table.key.object.value _ _ _ (step 0 2 0 0 none) n.2.0 (grown_by c.load-2.new.seat.me.0.held (history n.2.0) (knowing c.load.result own))
          (ap (λ v. v.stage) n.2.3) (n.2.2 ∙ n.2.1) (sym (ap (λ v. v.held) n.2.3)) (ap (λ v. v.owns) n.2.3 ∙ ap (λ as'. map (grown_by c.load-2.new.seat.me.0.held (history n.2.0)) as') owns) start,
    )

pub store-requires-2 : goal.store-requires-2
store-requires-2 g c =
    let w = c.wait-ticket.ensures in
    let l = c.load.ensures in
    let t = c.load-2.ensures in
    let n = c.store.ensures in
    let b = c.load-3.ensures in
    let table = c.args.self.now.table.shared in
    let ticket : c.load-3.new.seat.me.0.ticket ≡ c.wait-ticket.result =
    ap (λ v. v.ticket) b.2.1 ∙ (ap (λ v. v.ticket) n.2.3 ∙ (ap (λ v. v.ticket) t.2.4 ∙ (ap (λ v. v.ticket) l.2.3 ∙ ap (λ v. v.ticket) w.view))) in (
      b.0 ∙ (n.0 ∙ (t.0 ∙ (l.0 ∙ (w.place.0 ∙ c.requires.place)))),
      omega (arith, c.args.self.now.sized.0),
      passes g.O.OneThread.history g.O.OneThread.start table.key.lanes table.key.object.value _ _ _ (step 0 2 0 0 none) _ (ap (λ v. v.stage) b.2.1) (ap (λ k. k + 1) (sym ticket)),
    )

pub invariant_of-pass : goal.invariant_of-pass
invariant_of-pass g c =
    let w = c.wait-ticket.ensures in
    let l = c.load.ensures in
    let t = c.load-2.ensures in
    let n = c.store.ensures in
    let b = c.load-3.ensures in
    let p = c.store-2.ensures in
    let table = c.args.self.now.table.shared in
    let history = g.O.OneThread.history in
    let held = c.load-2.new.seat.me.0.held in
    let owns = ap (λ v. v.owns) p.2.1 ∙ (ap (λ v. v.owns) b.2.1 ∙ (ap (λ v. v.owns) n.2.3
    ∙ ap (λ as'. map (grown_by held (history n.2.0)) as') (ap (λ v. v.owns) t.2.4 ∙ (ap (λ v. v.owns) l.2.3 ∙ ap (λ as'. map (knowing c.load.result) as') (ap (λ v. v.owns) w.view))))) in
    let again = acted history g.O.OneThread.start table.key.lanes table.key.object.value c.args.pass.now.lane c.args.pass.now.step c.args.pass.now.seat.me c.store-2.new.seat.me c.load.result held (history n.2.0) (rests g.O.OneThread.history g.O.OneThread.start 0 c.args.self.now.table.shared.key.object.value c.args.pass.now.lane c.args.pass.now.step c.args.pass.now.seat.me c.args.pass.now.idle) c.requires.calls
    (p.2.0 ∙ b.2.0) (ap (λ v. v.stage) p.2.1) (ap (λ v. v.calls) p.2.1 ∙ (ap (λ v. v.calls) b.2.1 ∙ (ap (λ v. v.calls) n.2.3 ∙ (ap (λ v. v.calls) t.2.4 ∙ (ap (λ v. v.calls) l.2.3 ∙ ap (λ v. v.calls) w.view))))) owns in
    record { idle = idle_again history g.O.OneThread.start table.key.lanes table.key.object.value c.args.pass.now.lane (c.args.pass.now.step + 1) c.store-2.new.seat.me again }
