-- Each step keeps the rule.
use Rattle.std.specs.Prelude.{nat_eq, false, zero, suc}
use Rattle.std.specs.List.{AllByRecursion as Each}
use Rattle.std.proofs.Common.{append_assoc, ne_eqb, length-append, ◌≡◌, ◌≢◌, ℕ, ◌+◌, ◌-◌, ◌%◌, ◌^◌, ◌<◌, ◌≤◌, ◌⊎◌, List, [], ◌∷◌, ◌++◌, map, length, drop, set, get_or, sym, refl, ap, subst, ◌∙◌, inl, inr, ⊎_elim, le_refl, take_all, arith}
use Rattle.std.proofs.lemmas.List.{append-nil, length-map, take-append-le}
use Rattle.std.proofs.Math.Seq.{drop-append_seam}
use Rattle.std.proofs.Math.Nat.{mod-eq_of_lt}
use Rattle.std.proofs.lemmas.List.Elements.{filter-append}
use mathlib.Core.Option.{Option, some, none, some-injective, some-ne-none}
use lib.ListN.{get_elem?}
use Rattle.atomic_table.specs.Table.{State, Me, Step, keeps, takes, gives, Allows, carried_after, put_back}
use Rattle.atomic_table.proofs.Lists.{set_here, set_else}
use Rattle.call_turn.specs.declared.Entry.{Entry}
use Rattle.call_turn.specs.declared.Share.{Share}
use Rattle.call_turn.specs.declared.View.{View}
use Rattle.call_turn.specs.History.{of_lane}
use Rattle.call_turn.specs.Rule.{Kept, Fits, Owned, Holder, HasObject, Apart, OtherLanes, Foreign, Separate, lanes_of, limit, calls_left, Draws, Asks, Learns, Looks, Takes, Counts, Gives, Passes, Grown, knowing, grown_by, counted}
use Rattle.call_turn.proofs.Lists.{eq_or_ne, at_below, one_there, each_set, pairs_set, each_append, each_weaker, foreign_swap}

module _ {O Order Answer Start : Type 0} (history : O → List (Entry Order Answer)) (start_of : O → Start) (lanes : ℕ) (first : O) where
  abbrev V : Type 0
  V = View Order Answer Start

  abbrev S : Type 0
  S = Share Order Answer Start

  abbrev Es : Type 0
  Es = List (Entry Order Answer)

  abbrev K : State O V → Type 0
  K s = Kept history start_of lanes first s

  abbrev Own : Es → S → Type 0
  Own behind a = Owned lanes (length (history first)) (start_of first) behind a

  abbrev Fit : ℕ → ℕ → Es → Option O → V → Type 0
  Fit next served behind home v = Fits lanes (history first) (start_of first) next served behind home v

  pub holder_set : (views : List V) (id : ℕ) (v w : V) → get_elem? views id ≡ some v → (HasObject v → HasObject w) → Holder views → Holder (set views id w)
  holder_set views id v w at goes hold = ⊎_elim
      (λ (e : hold.0 ≡ id). let same : hold.1 ≡ v = one_there views id hold.1 v (subst (λ (j : ℕ). get_elem? views j ≡ some hold.1) e hold.2) at in
      (id, w, set_here views id w (at_below views id v at), goes (subst HasObject same hold.3)))
      (λ (n : hold.0 ≢ id). (hold.0, hold.1, set_else views id hold.0 w n ∙ hold.2, hold.3))
      (eq_or_ne hold.0 id)

  set_same : (l : List ℕ) (i : ℕ) → set l i (get_or l i 0) ≡ l
  set_same [] i = refl
  set_same (x ∷ xs) zero = refl
  set_same (x ∷ xs) (suc i) = ap (λ r. x ∷ r) (set_same xs i)

  below_or : (a b : ℕ) → (a < b) ⊎ (b ≤ a)
  below_or a zero = inr (omega arith)
  below_or zero (suc b) = inl (omega arith)
  below_or (suc a) (suc b) = ⊎_elim (λ (h : a < b). inl (omega arith)) (λ (h : b ≤ a). inr (omega arith)) (below_or a b)

  calls_below : (views : List V) (id : ℕ) (v : V) → get_elem? views id ≡ some v → v.calls ≤ calls_left views
  calls_below [] id v e = absurd (some-ne-none v (sym e))
  calls_below (x ∷ xs) zero v e = let h : x.calls ≡ v.calls = ap (λ (y : V). y.calls) (some-injective x v e) in let g : v.calls ≤ x.calls + calls_left xs = omega (arith, h) in g
  calls_below (x ∷ xs) (suc i) v e = let h = calls_below xs i v e in let g : v.calls ≤ x.calls + calls_left xs = omega (arith, h) in g

  pub calls_set : (l : List V) (id : ℕ) (v w : V) → get_elem? l id ≡ some v → calls_left (set l id w) + v.calls ≡ calls_left l + w.calls
  calls_set [] id v w e = absurd (some-ne-none v (sym e))
  calls_set (x ∷ xs) zero v w e =
      let h : x.calls ≡ v.calls = ap (λ (y : V). y.calls) (some-injective x v e) in
      let g : (w.calls + calls_left xs) + v.calls ≡ (x.calls + calls_left xs) + w.calls = omega (arith, h) in g
  calls_set (x ∷ xs) (suc i) v w e =
      let r = calls_set xs i v w e in
      let g : (x.calls + calls_left (set xs i w)) + v.calls ≡ (x.calls + calls_left xs) + w.calls = omega (arith, r) in g

  pub calls_snoc : (l : List V) (w : V) → calls_left (l ++ w ∷ []) ≡ calls_left l + w.calls
  calls_snoc [] w = omega arith
  calls_snoc (x ∷ xs) w = let r = calls_snoc xs w in let g : x.calls + calls_left (xs ++ w ∷ []) ≡ (x.calls + calls_left xs) + w.calls = omega (arith, r) in g

  pub swap : (v w : V) → Apart v w → Apart w v
  swap v w apart p q e = apart q p (sym e)

  -- the rule where one view becomes w, with the same lanes
  rebuilt : (s : State O V) (k : K s) (id : ℕ) (v w : V) → get_elem? s.views id ≡ some v
      → (next served : ℕ) (behind : Es) (home : Option O) (ws : List ℕ) (hs : List (Option O))
      → ws ≡ next ∷ served ∷ length (history first ++ behind) ∷ [] → hs ≡ home ∷ []
      → ((o : O) → home ≡ some o → (history o ≡ history first ++ behind) × (start_of o ≡ start_of first))
      → (home ≡ none → Holder (set s.views id w))
      → Fit next served behind home w
      → ((j : ℕ) (u : V) → j ≢ id → get_elem? s.views j ≡ some u → Fit next served behind home u)
      → ((j : ℕ) (u : V) → j ≢ id → get_elem? s.views j ≡ some u → Apart w u)
      → lanes_of w ≡ lanes_of v → next + w.calls ≤ k.next + v.calls → Each (λ e. (0 < e.lane) × (e.lane ≤ lanes)) behind → served ≤ next
      → K (record { words = ws; homes = hs; views = set s.views id w })
  rebuilt s k id v w at next served behind home ws hs words homes inside away fits others apart same calls given order =
      let foreign : (j : ℕ) (u : V) → j ≢ id → get_elem? s.views j ≡ some u → OtherLanes w u =
      λ j u n g. subst (λ (ns : List ℕ). Foreign ns (lanes_of u)) (sym same) (k.foreign id j v u (λ q. n (sym q)) at g) in record {
        next = next;
        served = served;
        behind = behind;
        home = home;
        words = words;
        homes = homes;
        inside = inside;
        away = away;
        each = each_set (Fit next served behind home) s.views id w fits others;
        tickets = pairs_set Apart s.views id w k.tickets apart (λ j u n g. swap w u (apart j u n g));
        foreign = pairs_set OtherLanes s.views id w k.foreign foreign (λ j u n g. foreign_swap (lanes_of w) (lanes_of u) (foreign j u n g));
        given = given;
        budget = let t = calls_set s.views id v w at in let b = k.budget in omega (arith, calls);
        order = order;
      }

  know : (n : ℕ) (behind : Es) → n ≡ length (history first ++ behind) → (a : S) → Own behind a → Own behind (knowing n a)
  know n behind is a own =
      let long : length (history first ++ behind) ≡ length (history first) + length behind = length-append (history first) behind in record {
        lane = own.lane;
        start = own.start;
        known = omega (arith, is, long);
        mine = own.mine;
        seen = own.mine ∙ ap (λ es. of_lane a.lane es) (sym (take_all (n - length (history first)) behind (omega (arith, is, long))));
      }

  known_all : (n : ℕ) (behind : Es) → n ≡ length (history first ++ behind) → (more : List S) → Each (Own behind) more → Each (Own behind) (map (knowing n) more) × Each (λ a. a.known ≤ n) more × (map (λ a. a.lane) (map (knowing n) more) ≡ map (λ a. a.lane) more)
  known_all n behind is [] own = (tt, tt, refl)
  known_all n behind is (a ∷ more) own =
      let r = known_all n behind is more own.1 in
      let long : length (history first ++ behind) ≡ length (history first) + length behind = length-append (history first) behind in
      let known = own.0.known in
      ((know n behind is a own.0, r.0), (omega (arith, is, long, known), r.1), ap (λ ns. a.lane ∷ ns) r.2)

  module _ (slots id : ℕ) (m : Me O V) (st : Step O) where
    pub looks : Allows (Kept history start_of lanes first) slots id m 2 (λ n. n) (Looks history start_of st m)
    looks s k len at lt =
        let found = get_or s.words 2 0 in
        let is : found ≡ length (history first ++ k.behind) = ap (λ ws. get_or ws 2 0) k.words in
        let f = k.each id m.0 at in
        let a = known_all found k.behind is m.0.owns f.owns in
        let w : V = record m.0 { owns = map (knowing found) m.0.owns } in (
          w,
          keeps,
          tt,
          rebuilt s k id m.0 w at k.next k.served k.behind k.home _ _ (ap (λ ws. set ws 2 (get_or ws 2 0)) k.words) k.homes k.inside
              (λ e. holder_set s.views id m.0 w at (λ h. h) (k.away e))
              (record { waits = f.waits; now = f.now; knows = f.knows; has = f.has; idle = λ z. f.idle (sym (length-map m.0.owns (knowing found)) ∙ z); owns = a.0; separate = subst Separate (sym a.2) f.separate })
              (λ j u n g. k.each j u g)
              (λ j u n g. k.tickets id j m.0 u (λ q. n (sym q)) at g)
              a.2 (le_refl _) k.given k.order,
          (refl, a.1, refl),
        )

    -- no other seat is served
    alone : (s : State O V) (k : K s) → get_elem? s.views id ≡ some m.0 → 2 ≤ m.0.stage
        → (j : ℕ) (u : V) → j ≢ id → get_elem? s.views j ≡ some u → u.stage < 2
    alone s k at served j u n g = ⊎_elim (λ (h : u.stage < 2). h)
        (λ (h : 2 ≤ u.stage). absurd (k.tickets j id u m.0 n g at (omega arith) (omega arith) ((k.each j u g).now h ∙ sym ((k.each id m.0 at).now served))))
        (below_or u.stage 2)

    apart_same : (s : State O V) (k : K s) (w : V) → get_elem? s.views id ≡ some m.0 → 0 < m.0.stage → w.ticket ≡ m.0.ticket
        → (j : ℕ) (u : V) → j ≢ id → get_elem? s.views j ≡ some u → Apart w u
    apart_same s k w at has same j u n g p q e = k.tickets id j m.0 u (λ r. n (sym r)) at g has q (sym same ∙ e)

    pub draws : m.0.stage ≡ 0 → 0 < m.0.calls → 0 < length m.0.owns → Allows (Kept history start_of lanes first) slots id m 0 (λ n. (n + 1) % 2 ^ 64) (Draws history start_of st m)
    draws idle some_left shares s k len at lt =
        let found = get_or s.words 0 0 in
        let is : found ≡ k.next = ap (λ ws. get_or ws 0 0) k.words in
        let f = k.each id m.0 at in
        let w : V = record m.0 { stage = 1; ticket = found; calls = m.0.calls - 1 } in
        let left = calls_below s.views id m.0 at in
        let bound : k.next + m.0.calls ≤ limit = omega (arith, k.budget, left) in
        let next : (k.next + 1) % 2 ^ 64 ≡ k.next + 1 = mod-eq_of_lt (omega (arith, bound)) in (
          w,
          keeps,
          tt,
          rebuilt s k id m.0 w at (k.next + 1) k.served k.behind k.home _ _
              (ap (λ ws. set ws 0 ((get_or ws 0 0 + 1) % 2 ^ 64)) k.words ∙ ap (λ n. n ∷ k.served ∷ length (history first ++ k.behind) ∷ []) next) k.homes k.inside
              (λ e. holder_set s.views id m.0 w at (λ h. absurd (omega (arith, h.0, idle))) (k.away e))
              (record {
                waits = λ h. (omega (arith, is, k.order), omega (arith, is));
                now = λ h. absurd (omega (arith, h));
                knows = λ h. absurd (omega (arith, h));
                has = λ h. absurd (omega (arith, h.0));
                idle = λ z. absurd (omega (arith, z, shares));
                owns = f.owns;
                separate = f.separate;
              })
              (λ j u n g. let o = k.each j u g in record { waits = λ h. ((o.waits h).0, omega (arith, (o.waits h).1)); now = o.now; knows = o.knows; has = o.has; idle = o.idle; owns = o.owns; separate = o.separate })
              (λ j u n g p q e. let t = ((k.each j u g).waits q).1 in omega (arith, is, t, e))
              refl (omega (arith, some_left)) k.given (omega (arith, k.order)),
          (refl, omega (arith, is, bound, some_left), refl),
        )

    pub asks : m.0.stage ≡ 1 → Allows (Kept history start_of lanes first) slots id m 1 (λ n. n) (Asks history start_of st m)
    asks waits s k len at lt =
        let found = get_or s.words 1 0 in
        let is : found ≡ k.served = ap (λ ws. get_or ws 1 0) k.words in
        let f = k.each id m.0 at in ⊎_elim
        (λ (e : found ≡ m.0.ticket).
        let w : V = record m.0 { stage = 2 } in (
          w,
          keeps,
          tt,
          rebuilt s k id m.0 w at k.next k.served k.behind k.home _ _ (set_same s.words 1 ∙ k.words) k.homes k.inside
              (λ e. holder_set s.views id m.0 w at (λ h. absurd (omega (arith, h.0, waits))) (k.away e))
              (record {
                waits = λ h. f.waits (omega (arith, waits));
                now = λ h. sym e ∙ is;
                knows = λ h. absurd (omega (arith, h));
                has = λ h. absurd (omega (arith, h.0));
                idle = λ z. absurd (omega (arith, f.idle z, waits));
                owns = f.owns;
                separate = f.separate;
              })
              (λ j u n g. k.each j u g) (apart_same s k w at (omega (arith, waits)) refl) refl (le_refl _) k.given k.order,
          (refl, (λ _. refl), (λ n. absurd (n e))),
        ))
        (λ (n : found ≢ m.0.ticket). (
          m.0,
          keeps,
          tt,
          rebuilt s k id m.0 m.0 at k.next k.served k.behind k.home _ _ (set_same s.words 1 ∙ k.words) k.homes k.inside
              (λ e. holder_set s.views id m.0 m.0 at (λ h. h) (k.away e))
              f (λ j u n g. k.each j u g) (apart_same s k m.0 at (omega (arith, waits)) refl) refl (le_refl _) k.given k.order,
          (refl, (λ e. absurd (n e)), (λ _. refl)),
        ))
        (eq_or_ne found m.0.ticket)

    pub learns : m.0.stage ≡ 2 → Allows (Kept history start_of lanes first) slots id m 2 (λ n. n) (Learns history start_of st m)
    learns served s k len at lt =
        let found = get_or s.words 2 0 in
        let is : found ≡ length (history first ++ k.behind) = ap (λ ws. get_or ws 2 0) k.words in
        let f = k.each id m.0 at in
        let a = known_all found k.behind is m.0.owns f.owns in
        let w : V = record m.0 { stage = 3; held = history first ++ k.behind; owns = map (knowing found) m.0.owns } in (
          w,
          keeps,
          tt,
          rebuilt s k id m.0 w at k.next k.served k.behind k.home _ _ (set_same s.words 2 ∙ k.words) k.homes k.inside
              (λ e. holder_set s.views id m.0 w at (λ h. absurd (omega (arith, h.0, served))) (k.away e))
              (record {
                waits = λ h. f.waits (omega (arith, served));
                now = λ h. f.now (omega (arith, served));
                knows = λ h. refl;
                has = λ h. absurd (omega (arith, h.0));
                idle = λ z. absurd (omega (arith, f.idle (sym (length-map m.0.owns (knowing found)) ∙ z), served));
                owns = a.0;
                separate = subst Separate (sym a.2) f.separate;
              })
              (λ j u n g. k.each j u g) (apart_same s k w at (omega (arith, served)) refl) a.2 (le_refl _) k.given k.order,
          (refl, sym is, a.1, refl),
        )

    -- the object is at home where the seat that is served has not taken it
    at_home : m.0.stage ≡ 3 → (s : State O V) (k : K s) → get_elem? s.views id ≡ some m.0 → (home : Option O) → k.home ≡ home → (o : O) × (k.home ≡ some o)
    at_home ready s k at (some o) e = (o, e)
    at_home ready s k at none e = let hold = k.away e in ⊎_elim
        (λ (q : hold.0 ≡ id). let same : hold.1 ≡ m.0 = one_there s.views id hold.1 m.0 (subst (λ (j : ℕ). get_elem? s.views j ≡ some hold.1) q hold.2) at in
        let core : HasObject m.0 = subst HasObject same hold.3 in absurd (omega (arith, core.0, ready)))
        (λ (q : hold.0 ≢ id). let low = alone s k at (omega (arith, ready)) hold.0 hold.1 q hold.2 in absurd (omega (arith, low, hold.3.0)))
        (eq_or_ne hold.0 id)

    pub takes_object : m.0.stage ≡ 3 → m.1 ≡ [] → Allows (Kept history start_of lanes first) slots id m 1 (λ n. n) (Takes history start_of st m)
    takes_object ready empty s k len at lt =
        let f = k.each id m.0 at in
        let there = at_home ready s k at k.home refl in
        let within = k.inside there.0 there.1 in
        let w : V = record m.0 { stage = 4 } in (
          w,
          takes 0 there.0,
          ap (λ hs. get_elem? hs 0) k.homes ∙ ap some there.1,
          rebuilt s k id m.0 w at k.next k.served k.behind none _ _ (set_same s.words 1 ∙ k.words) (ap (λ hs. set hs 0 none) k.homes)
              (λ o e. absurd (some-ne-none o (sym e)))
              (λ e. (id, w, set_here s.views id w (at_below s.views id m.0 at), (omega arith, omega arith)))
              (record {
                waits = λ h. f.waits (omega (arith, ready));
                now = λ h. f.now (omega (arith, ready));
                knows = λ h. f.knows (omega (arith, ready));
                has = λ h. refl;
                idle = λ z. absurd (omega (arith, f.idle z, ready));
                owns = f.owns;
                separate = f.separate;
              })
              (λ j u n g. let o = k.each j u g in record { waits = o.waits; now = o.now; knows = o.knows; has = λ h. refl; idle = o.idle; owns = o.owns; separate = o.separate })
              (apart_same s k w at (omega (arith, ready)) refl) refl (le_refl _) k.given k.order,
          (
            there.0,
            ap (λ c. (0, there.0) ∷ c) empty,
            within.0 ∙ sym (f.knows (omega (arith, ready))),
            each_weaker (Own k.behind) (λ a. start_of there.0 ≡ a.start) (λ a own. within.1 ∙ sym own.start) m.0.owns f.owns,
            refl,
          ),
        )

    pub give : (x : O) (a : S) → m.0.stage ≡ 5 → m.1 ≡ (0, x) ∷ [] → history x ≡ m.0.held → m.0.owns ≡ a ∷ [] → start_of x ≡ a.start → Allows (Kept history start_of lanes first) slots id m 1 (λ n. n) (Gives history start_of st m)
    give x a ready hand same owns start s k len at lt =
        let f = k.each id m.0 at in
        let ours : Own k.behind a = (subst (λ (as' : List S). Each (Own k.behind) as') owns f.owns).0 in
        let w : V = record m.0 { stage = 6 } in (
          w,
          gives,
          tt,
          rebuilt s k id m.0 w at k.next k.served k.behind (some x) _ _ (set_same s.words 1 ∙ k.words)
              (ap (λ c. put_back s.homes c) hand ∙ ap (λ hs. set hs 0 (some x)) k.homes)
              (λ o e. (ap history (sym (some-injective x o e)) ∙ (same ∙ f.knows (omega (arith, ready))), ap start_of (sym (some-injective x o e)) ∙ (start ∙ ours.start)))
              (λ e. absurd (some-ne-none x e))
              (record {
                waits = λ h. f.waits (omega (arith, ready));
                now = λ h. f.now (omega (arith, ready));
                knows = λ h. f.knows (omega (arith, ready));
                has = λ h. absurd (omega (arith, h.1));
                idle = λ z. absurd (omega (arith, f.idle z, ready));
                owns = f.owns;
                separate = f.separate;
              })
              (λ j u n g. let o = k.each j u g in let low = alone s k at (omega (arith, ready)) j u n g in
              record { waits = o.waits; now = o.now; knows = o.knows; has = λ h. absurd (omega (arith, low, h.0)); idle = o.idle; owns = o.owns; separate = o.separate })
              (apart_same s k w at (omega (arith, ready)) refl) refl (le_refl _) k.given k.order,
          (ap (λ c. carried_after c gives) hand, refl),
        )

    pub passes : (new : ℕ) → m.0.stage ≡ 6 → new ≡ m.0.ticket + 1 → Allows (Kept history start_of lanes first) slots id m 1 (λ _. new) (λ _. Passes history start_of st m new)
    passes new ready is s k len at lt =
        let f = k.each id m.0 at in
        let ours : m.0.ticket ≡ k.served = f.now (omega (arith, ready)) in
        let bound = (f.waits (omega (arith, ready))).1 in
        let w : V = record m.0 { stage = 0 } in (
          w,
          keeps,
          tt,
          rebuilt s k id m.0 w at k.next (k.served + 1) k.behind k.home _ _
              (ap (λ ws. set ws 1 new) k.words ∙ ap (λ n. k.next ∷ n ∷ length (history first ++ k.behind) ∷ []) (is ∙ ap (λ n. n + 1) ours)) k.homes k.inside
              (λ e. holder_set s.views id m.0 w at (λ h. absurd (omega (arith, h.1, ready))) (k.away e))
              (record {
                waits = λ h. absurd (omega (arith, h));
                now = λ h. absurd (omega (arith, h));
                knows = λ h. absurd (omega (arith, h));
                has = λ h. absurd (omega (arith, h.0));
                idle = λ z. refl;
                owns = f.owns;
                separate = f.separate;
              })
              (λ j u n g. let o = k.each j u g in let low = alone s k at (omega (arith, ready)) j u n g in record {
                waits = λ h. (
                  ⊎_elim (λ (q : u.ticket ≡ m.0.ticket). absurd (k.tickets j id u m.0 n g at h (omega (arith, ready)) q))
                      (λ (q : u.ticket ≢ m.0.ticket). let a = (o.waits h).0 in omega (arith, a, q, ours)) (eq_or_ne u.ticket m.0.ticket),
                  (o.waits h).1,
                );
                now = λ h. absurd (omega (arith, low, h));
                knows = λ h. absurd (omega (arith, low, h));
                has = λ h. absurd (omega (arith, low, h.0));
                idle = o.idle;
                owns = o.owns;
                separate = o.separate;
              })
              (λ j u n g p q e. absurd (omega (arith, p)))
              refl (le_refl _) k.given (omega (arith, bound, ours)),
          (refl, refl),
        )

    -- a list that has grown by entries of the seat's own lane
    abbrev Longer : S → Es → O → Type 0
    Longer a behind x = (more : Es) × (history x ≡ (history first ++ behind) ++ more) × Each (λ e. e.lane ≡ a.lane) more

    longer : (a : S) (behind : Es) (x : O) → m.0.held ≡ history first ++ behind → Grown a.lane m.0.held (history x) → Longer a behind x
    longer a behind x held (inl same) = ([], (same ∙ held) ∙ sym (append-nil (history first ++ behind)), tt)
    longer a behind x held (inr more) = (more.0 ∷ [], more.2 ∙ ap (λ es. es ++ more.0 ∷ []) held, (more.1, tt))

    none_of : (n : ℕ) (a : S) (more : Es) → n ≢ a.lane → Each (λ e. e.lane ≡ a.lane) more → of_lane n more ≡ []
    none_of n a [] ne all = refl
    none_of n a (e ∷ more) ne all = let test : nat_eq e.lane n ≡ false = ne_eqb e.lane n (λ q. ne (sym q ∙ all.0)) in rw test (none_of n a more ne all.1)

    -- a share of another lane says as much as before
    other_share : (a b : S) (behind more : Es) → b.lane ≢ a.lane → Each (λ e. e.lane ≡ a.lane) more → Own behind b → Own (behind ++ more) b
    other_share a b behind more ne all own =
        let long : length (behind ++ more) ≡ length behind + length more = length-append behind more in
        let known = own.known in record {
          lane = own.lane;
          start = own.start;
          known = omega (arith, long, known);
          mine = own.mine ∙ sym (filter-append (λ x. nat_eq x.lane b.lane) behind more ∙ (ap (λ r. of_lane b.lane behind ++ r) (none_of b.lane a more ne all) ∙ append-nil (of_lane b.lane behind)));
          seen = own.seen ∙ ap (λ es. of_lane b.lane es) (sym (take-append-le (b.known - length (history first)) behind more (omega (arith, known))));
        }

    other_shares : (a : S) (behind more : Es) (bs : List S) → Foreign (map (λ b. b.lane) bs) (a.lane ∷ []) → Each (λ e. e.lane ≡ a.lane) more → Each (Own behind) bs → Each (Own (behind ++ more)) bs
    other_shares a behind more [] f all own = tt
    other_shares a behind more (b ∷ bs) f all own = (other_share a b behind more f.0.0 all own.0, other_shares a behind more bs f.1 all own.1)

    -- the seat's own share has the new entry
    own_share : (a : S) (behind more : Es) (now : Es) → now ≡ (history first ++ behind) ++ more → Own behind a → Own (behind ++ more) (grown_by (history first ++ behind) now a)
    own_share a behind more now is own =
        let tail : drop (length (history first ++ behind)) now ≡ more = ap (λ es. drop (length (history first ++ behind)) es) is ∙ drop-append_seam (history first ++ behind) more in
        let mine : a.mine ++ of_lane a.lane (drop (length (history first ++ behind)) now) ≡ of_lane a.lane (behind ++ more) =
        ap (λ es. es ++ of_lane a.lane (drop (length (history first ++ behind)) now)) own.mine
        ∙ (ap (λ es. of_lane a.lane behind ++ of_lane a.lane es) tail
        ∙ sym (filter-append (λ x. nat_eq x.lane a.lane) behind more)) in
        let long : length now ≡ length (history first) + length (behind ++ more) = ap length (is ∙ append_assoc (history first) behind more) ∙ length-append (history first) (behind ++ more) in record {
          lane = own.lane;
          start = own.start;
          known = omega (arith, long);
          mine = mine;
          seen = mine ∙ ap (λ es. of_lane a.lane es) (sym (take_all (length now - length (history first)) (behind ++ more) (omega (arith, long))));
        }

    pub counts : (new : ℕ) (x : O) (a : S) → m.0.stage ≡ 4 → m.1 ≡ (0, x) ∷ [] → m.0.owns ≡ a ∷ [] → Grown a.lane m.0.held (history x) → new ≡ length (history x)
        → Allows (Kept history start_of lanes first) slots id m 2 (λ _. new) (λ _. Counts history start_of st m new)
    counts new x a ready hand owns grown is s k len at lt =
        let f = k.each id m.0 at in
        let held : m.0.held ≡ history first ++ k.behind = f.knows (omega (arith, ready)) in
        let l = longer a k.behind x held grown in
        let more = l.0 in
        let whole : history x ≡ history first ++ (k.behind ++ more) = l.1 ∙ append_assoc (history first) k.behind more in
        let w : V = counted history start_of m.0 x in
        let ours : Own k.behind a = (subst (λ (as' : List S). Each (Own k.behind) as') owns f.owns).0 in
        let grows : Each (Own (k.behind ++ more)) (map (grown_by m.0.held (history x)) m.0.owns) =
        subst (λ (as' : List S). Each (Own (k.behind ++ more)) (map (grown_by m.0.held (history x)) as')) (sym owns)
        (subst (λ (h : Es). Own (k.behind ++ more) (grown_by h (history x) a)) (sym held) (own_share a k.behind more (history x) l.1 ours), tt) in
        let same : lanes_of w ≡ lanes_of m.0 = subst (λ (as' : List S). map (λ b. b.lane) (map (grown_by m.0.held (history x)) as') ≡ map (λ b. b.lane) as') (sym owns) refl in
        let alone_lane : lanes_of m.0 ≡ a.lane ∷ [] = ap (λ (as' : List S). map (λ b. b.lane) as') owns in
        let out : k.home ≡ none = f.has (omega (arith, ready), omega (arith, ready)) in (
          w,
          keeps,
          tt,
          rebuilt s k id m.0 w at k.next k.served (k.behind ++ more) k.home _ _
              (ap (λ ws. set ws 2 new) k.words ∙ ap (λ n. k.next ∷ k.served ∷ n ∷ []) (is ∙ ap length whole)) k.homes
              (λ o e. absurd (some-ne-none o (sym e ∙ out)))
              (λ e. holder_set s.views id m.0 w at (λ h. (omega arith, omega arith)) (k.away e))
              (record {
                waits = λ h. f.waits (omega (arith, ready));
                now = λ h. f.now (omega (arith, ready));
                knows = λ h. whole;
                has = λ h. out;
                idle = λ z. absurd (omega (arith, f.idle (sym (length-map m.0.owns (grown_by m.0.held (history x))) ∙ z), ready));
                owns = grows;
                separate = subst Separate (sym same) f.separate;
              })
              (λ j u n g. let o = k.each j u g in let low = alone s k at (omega (arith, ready)) j u n g in
              let apart : Foreign (lanes_of u) (a.lane ∷ []) = subst (λ (ns : List ℕ). Foreign (lanes_of u) ns) alone_lane (k.foreign j id u m.0 n g at) in record {
                waits = o.waits;
                now = o.now;
                knows = λ h. absurd (omega (arith, low, h));
                has = o.has;
                idle = o.idle;
                owns = other_shares a k.behind more u.owns apart l.2 o.owns;
                separate = o.separate;
              })
              (apart_same s k w at (omega (arith, ready)) refl) same (le_refl _)
              (each_append (λ e. (0 < e.lane) × (e.lane ≤ lanes)) k.behind more k.given
              (each_weaker (λ e. e.lane ≡ a.lane) (λ e. (0 < e.lane) × (e.lane ≤ lanes)) (λ e q. let within = ours.lane in (omega (arith, q, within.0), omega (arith, q, within.1))) more l.2))
              k.order,
          (x, hand, refl, refl),
        )
