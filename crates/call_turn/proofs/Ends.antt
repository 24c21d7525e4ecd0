-- How passes are given, and taken back.
use Rattle.std.specs.Prelude.{zero, suc, Some}
use Rattle.std.specs.List.{AllByRecursion as Each, flat_map, Any, All}
use Rattle.std.proofs.Common.{length-append, ◌≡◌, ◌≢◌, ℕ, ◌+◌, ◌-◌, ◌*◌, ◌<◌, ◌≤◌, List, [], ◌∷◌, ◌++◌, map, length, take, take_all, set, get_or, sym, refl, ap, subst, ◌∙◌, inl, inr, ⊎_elim, arith}
use Rattle.std.proofs.lemmas.List.{append-nil, map-append, set_comm}
use Rattle.std.specs.declared.option.Option.{Option as Chance}
use Rattle.std.specs.Option.{IfSome, option_to_list}
use Rattle.std.proofs.lemmas.List.Elements.{All-pop}
use Rattle.std.proofs.lemmas.List.Concat.{flat_map-append}
use mathlib.Core.Option.{Option, some, none, some-injective, some-ne-none}
use lib.ListN.{get_elem?}
use Rattle.atomic_table.specs.Table.{State, Me, Splits, Joins, opening, Final, Seen}
use Rattle.atomic_table.proofs.Lists.{at_set, set_else, at_longer, at_snoc}
use Rattle.call_turn.specs.declared.Entry.{Entry}
use Rattle.call_turn.specs.declared.Share.{Share}
use Rattle.call_turn.specs.declared.View.{View}
use Rattle.call_turn.specs.History.{Among, Returned, Account, IsAll, lanes_from, of_lane}
use Rattle.call_turn.specs.Rule.{Kept, Fits, Owned, Holder, HasObject, Apart, OtherLanes, Foreign, Separate, Rests, IsIdle, lane_of, Dealing, account, knowing, grown_by, opener, shares, share, entries_of, known_of, lanes_of, limit, calls_of_pass, stays, leaves, joined, spent, rest_of, first_of}
use Rattle.call_turn.proofs.Lists.{eq_or_ne, one_there, each_set, pairs_set, pairs_snoc, each_append, each_of, each_front, each_back, each_weaker, foreign_none, foreign_swap, separate_append, not_among}
use Rattle.call_turn.proofs.Keeps.{holder_set, calls_set, calls_snoc}

module _ {O Order Answer Start : Type 0} (history : O → List (Entry Order Answer)) (start_of : O → Start) (lanes : ℕ) (first : O) where
  abbrev V : Type 0
  V = View Order Answer Start

  abbrev S : Type 0
  S = Share Order Answer Start

  abbrev Es : Type 0
  Es = List (Entry Order Answer)

  abbrev K : State O V → Type 0
  K s = Kept history start_of lanes first s

  abbrev Own : Es → S → Type 0
  Own behind a = Owned lanes (length (history first)) (start_of first) behind a

  abbrev Fit : ℕ → ℕ → Es → Option O → V → Type 0
  Fit next served behind home v = Fits lanes (history first) (start_of first) next served behind home v

  holder_longer : (views : List V) (w : V) → Holder views → Holder (views ++ w ∷ [])
  holder_longer views w hold = (hold.0, hold.1, at_longer views (w ∷ []) hold.0 hold.1 hold.2, hold.3)

  -- a seat that rests, where its shares are such
  idle_fits : (next served : ℕ) (behind : Es) (home : Option O) (w : V) → w.stage ≡ 0 → Each (Own behind) w.owns → Separate (lanes_of w) → Fit next served behind home w
  idle_fits next served behind home w rests owns separate = record {
    waits = λ h. absurd (omega (arith, h, rests));
    now = λ h. absurd (omega (arith, h, rests));
    knows = λ h. absurd (omega (arith, h, rests));
    has = λ h. absurd (omega (arith, h.0, rests));
    idle = λ z. rests;
    owns = owns;
    separate = separate;
  }

  pub splits : (id : ℕ) (v : V) (a : S) (more : List S) → v.stage ≡ 0 → calls_of_pass ≤ v.calls → v.owns ≡ a ∷ more → Splits (Kept history start_of lanes first) id v (stays v) (leaves v)
  splits id v a more rests room owns s k at =
      let f = k.each id v at in
      let all : Each (Own k.behind) (a ∷ more) = subst (λ (l : List S). Each (Own k.behind) l) owns f.owns in
      let apart : Separate (a.lane ∷ map (λ b. b.lane) more) = subst (λ (l : List S). Separate (map (λ b. b.lane) l)) owns f.separate in
      let left : V = stays v in
      let right : V = leaves v in
      let stay_owns : left.owns ≡ more = ap (λ (l : List S). rest_of l) owns in
      let leave_owns : right.owns ≡ a ∷ [] = ap (λ (l : List S). first_of l) owns in
      let foreign : (j : ℕ) (u : V) → j ≢ id → get_elem? s.views j ≡ some u → Foreign (a.lane ∷ map (λ b. b.lane) more) (lanes_of u) =
      λ j u n g. subst (λ (l : List S). Foreign (map (λ b. b.lane) l) (lanes_of u)) owns (k.foreign id j v u (λ q. n (sym q)) at g) in
      let left_apart : (j : ℕ) (u : V) → j ≢ id → get_elem? s.views j ≡ some u → OtherLanes left u =
      λ j u n g. subst (λ (l : List S). Foreign (map (λ b. b.lane) l) (lanes_of u)) (sym stay_owns) (foreign j u n g).1 in
      let right_other : (j : ℕ) (u : V) → j ≢ id → get_elem? s.views j ≡ some u → OtherLanes right u =
      λ j u n g. subst (λ (l : List S). Foreign (map (λ b. b.lane) l) (lanes_of u)) (sym leave_owns) ((foreign j u n g).0, tt) in
      let right_left : OtherLanes right left =
      subst (λ (l : List S). Foreign (map (λ b. b.lane) l) (lanes_of left)) (sym leave_owns)
      (subst (λ (l : List S). Foreign (a.lane ∷ []) (map (λ b. b.lane) l)) (sym stay_owns) (apart.0, tt)) in
      let right_apart : (j : ℕ) (u : V) → get_elem? (set s.views id left) j ≡ some u → OtherLanes right u =
      λ j u g. ⊎_elim (λ (p : (j ≡ id) × (left ≡ u)). subst (λ (x : V). OtherLanes right x) p.1 right_left)
      (λ (p : (j ≢ id) × (get_elem? s.views j ≡ some u)). right_other j u p.0 p.1) (at_set s.views id j left u g) in
      let left_fits : Fit k.next k.served k.behind k.home left =
      idle_fits k.next k.served k.behind k.home left rests (subst (λ (l : List S). Each (Own k.behind) l) (sym stay_owns) all.1) (subst (λ (l : List S). Separate (map (λ b. b.lane) l)) (sym stay_owns) apart.1) in
      let right_fits : Fit k.next k.served k.behind k.home right =
      idle_fits k.next k.served k.behind k.home right rests (subst (λ (l : List S). Each (Own k.behind) l) (sym leave_owns) (all.0, tt)) (subst (λ (l : List S). Separate (map (λ b. b.lane) l)) (sym leave_owns) (tt, tt)) in record {
        next = k.next;
        served = k.served;
        behind = k.behind;
        home = k.home;
        words = k.words;
        homes = k.homes;
        inside = k.inside;
        away = λ e. holder_longer (set s.views id left) right (holder_set history start_of lanes first s.views id v left at (λ h. h) (k.away e));
        each = λ j u g. ⊎_elim
            (λ (p : get_elem? (set s.views id left) j ≡ some u). each_set (Fit k.next k.served k.behind k.home) s.views id left left_fits (λ i x n q. k.each i x q) j u p)
            (λ (p : right ≡ u). subst (Fit k.next k.served k.behind k.home) p right_fits)
            (at_snoc (set s.views id left) right u j g);
        tickets = pairs_snoc Apart (set s.views id left) right
            (pairs_set Apart s.views id left k.tickets (λ j u n g p. absurd (omega (arith, p, rests))) (λ j u n g p q. absurd (omega (arith, q, rests))))
            (λ j u g p. absurd (omega (arith, p, rests))) (λ j u g p q. absurd (omega (arith, q, rests)));
        foreign = pairs_snoc OtherLanes (set s.views id left) right
            (pairs_set OtherLanes s.views id left k.foreign left_apart (λ j u n g. foreign_swap (lanes_of left) (lanes_of u) (left_apart j u n g)))
            right_apart (λ j u g. foreign_swap (lanes_of right) (lanes_of u) (right_apart j u g));
        given = k.given;
        budget = let t = calls_set history start_of lanes first s.views id v left at in let c = calls_snoc history start_of lanes first (set s.views id left) right in let b = k.budget in omega (arith, t, c, b, room);
        order = k.order;
      }

  pub joins : (id : ℕ) (v : V) (other : ℕ) (w : V) → v.stage ≡ 0 → w.stage ≡ 0 → Joins (Kept history start_of lanes first) id v other w (joined v w) spent
  joins id v other w rests rests_too s k at ne there =
      let both : V = joined v w in
      let nothing : V = spent in
      let at_w : get_elem? s.views other ≡ some w = sym (set_else s.views id other both ne) ∙ there in
      let f = k.each id v at in
      let g = k.each other w at_w in
      let between : Foreign (lanes_of w) (lanes_of v) = k.foreign other id w v ne at_w at in
      let all : lanes_of both ≡ lanes_of w ++ lanes_of v = map-append (λ a. a.lane) w.owns v.owns in
      let both_fits : Fit k.next k.served k.behind k.home both =
      idle_fits k.next k.served k.behind k.home both rests (each_append (Own k.behind) w.owns v.owns g.owns f.owns) (subst Separate (sym all) (separate_append (lanes_of w) (lanes_of v) g.separate f.separate between)) in
      let nothing_fits : Fit k.next k.served k.behind k.home nothing = idle_fits k.next k.served k.behind k.home nothing refl tt tt in
      let fewer : List V = set s.views other nothing in
      let at_v : get_elem? fewer id ≡ some v = set_else s.views other id nothing (λ q. ne (sym q)) ∙ at in
      let both_apart : (j : ℕ) (u : V) → j ≢ id → get_elem? fewer j ≡ some u → OtherLanes both u =
      λ j u n q. ⊎_elim
      (λ (p : (j ≡ other) × (nothing ≡ u)). subst (λ (x : V). OtherLanes both x) p.1 (foreign_none (lanes_of both)))
      (λ (p : (j ≢ other) × (get_elem? s.views j ≡ some u)). subst (λ (ns : List ℕ). Foreign ns (lanes_of u)) (sym all)
      (each_append (λ a. Each (λ b. a ≢ b) (lanes_of u)) (lanes_of w) (lanes_of v) (k.foreign other j w u (λ r. p.0 (sym r)) at_w p.1) (k.foreign id j v u (λ r. n (sym r)) at p.1)))
      (at_set s.views other j nothing u q) in
      let kept : K (record { words = s.words; homes = s.homes; views = set fewer id both }) = record {
        next = k.next;
        served = k.served;
        behind = k.behind;
        home = k.home;
        words = k.words;
        homes = k.homes;
        inside = k.inside;
        away = λ e. holder_set history start_of lanes first fewer id v both at_v (λ h. h) (holder_set history start_of lanes first s.views other w nothing at_w (λ h. absurd (omega (arith, h.0, rests_too))) (k.away e));
        each = each_set (Fit k.next k.served k.behind k.home) fewer id both both_fits
            (λ j u n q. each_set (Fit k.next k.served k.behind k.home) s.views other nothing nothing_fits (λ i x m r. k.each i x r) j u q);
        tickets = pairs_set Apart fewer id both
            (pairs_set Apart s.views other nothing k.tickets (λ j u n q p. absurd (omega (arith, p))) (λ j u n q p r. absurd (omega (arith, r))))
            (λ j u n q p. absurd (omega (arith, p, rests))) (λ j u n q p r. absurd (omega (arith, r, rests)));
        foreign = pairs_set OtherLanes fewer id both
            (pairs_set OtherLanes s.views other nothing k.foreign (λ j u n q. tt) (λ j u n q. foreign_none (lanes_of u)))
            both_apart (λ j u n q. foreign_swap (lanes_of both) (lanes_of u) (both_apart j u n q));
        given = k.given;
        budget = let t = calls_set history start_of lanes first s.views other w nothing at_w in let c = calls_set history start_of lanes first fewer id v both at_v in let b = k.budget in omega (arith, t, c, b);
        order = k.order;
      } in
      subst (λ (vs : List V). K (record { words = s.words; homes = s.homes; views = vs })) (sym (set_comm s.views id other both nothing (λ q. ne (sym q)))) kept

  -- ---- a seat at rest

  rests_from : (number step : ℕ) (m : Me O V) (hand : List (ℕ × O)) (owns : List S) → m.1 ≡ hand → m.0.owns ≡ owns → length hand ≡ 0 → m.0.stage ≡ 0 → calls_of_pass ≤ m.0.calls + step → length owns ≡ 1 → lane_of owns ≡ number → Rests number step m
  rests_from number step m (x ∷ hand) owns is_hand is bare stage calls one lane = absurd (omega (arith, bare))
  rests_from number step m [] [] is_hand is bare stage calls one lane = absurd (omega (arith, one))
  rests_from number step m [] (a ∷ b ∷ owns) is_hand is bare stage calls one lane = absurd (omega (arith, one))
  rests_from number step m [] (a ∷ []) is_hand is bare stage calls one lane = record { empty = is_hand; stage = stage; calls = calls; own = a; owns = is; lane = lane }

  -- the numbers that a pass keeps say how its view stands
  pub rests : (number step : ℕ) (m : Me O V) → IsIdle number step m → Rests number step m
  rests number step m i = rests_from number step m m.1 m.0.owns refl refl i.0 i.1 i.2 i.3 i.4

  pub idle_again : (number step : ℕ) (m : Me O V) → Rests number step m → IsIdle number step m
  idle_again number step m r = (ap (λ (l : List (ℕ × O)). length l) r.empty, r.stage, r.calls, ap (λ (l : List S). length l) r.owns, ap (λ (l : List S). lane_of l) r.owns ∙ r.lane)

  pub looked : (number step : ℕ) (m w : Me O V) (n : ℕ) → Rests number step m → w.1 ≡ m.1 → w.0 ≡ record m.0 { owns = map (knowing n) m.0.owns } → Rests number step w
  looked number step m w n r hand view = record {
    empty = hand ∙ r.empty;
    stage = ap (λ (v : V). v.stage) view ∙ r.stage;
    calls = let same : w.0.calls ≡ m.0.calls = ap (λ (v : V). v.calls) view in let c = r.calls in omega (arith, same, c);
    own = knowing n r.own;
    owns = ap (λ (v : V). v.owns) view ∙ ap (λ (l : List S). map (knowing n) l) r.owns;
    lane = r.lane;
  }

  pub looked_known : (number step : ℕ) (m w : Me O V) (n : ℕ) → Rests number step m → Each (λ a. a.known ≤ n) m.0.owns → w.0 ≡ record m.0 { owns = map (knowing n) m.0.owns } → (known_of m.0.owns ≤ n) × (known_of w.0.owns ≡ n)
  looked_known number step m w n r low view =
      let before : known_of m.0.owns ≡ r.own.known = ap (λ (l : List S). known_of l) r.owns in
      let its : r.own.known ≤ n = (subst (λ (l : List S). Each (λ a. a.known ≤ n) l) r.owns low).0 in
      (omega (arith, before, its), ap (λ (v : V). known_of v.owns) view ∙ ap (λ (l : List S). known_of (map (knowing n) l)) r.owns)

  -- the share of a pass after a call
  abbrev pub acted_share : ℕ → Es → Es → S → S
  acted_share n held now a = grown_by held now (knowing n a)

  pub acted : (number step : ℕ) (m w : Me O V) (n : ℕ) (held now : Es) → Rests number step m → step < calls_of_pass → w.1 ≡ [] → w.0.stage ≡ 0 → w.0.calls ≡ m.0.calls - 1
      → w.0.owns ≡ map (grown_by held now) (map (knowing n) m.0.owns) → Rests number (step + 1) w
  acted number step m w n held now r few hand stage calls owns = record {
    empty = hand;
    stage = stage;
    calls = let c = r.calls in omega (arith, calls, c, few);
    own = acted_share n held now r.own;
    owns = owns ∙ ap (λ (l : List S). map (grown_by held now) (map (knowing n) l)) r.owns;
    lane = r.lane;
  }

  -- ---- the passes, as they are given

  first_from : (m : Me O V) (n : ℕ) → 0 < n → n ≤ 8 → m.1 ≡ [] → m.0 ≡ opener n (start_of first) → Dealing 1 n (start_of first) m
  first_from m zero some_lane few hand view = absurd (omega arith)
  first_from m (suc n) some_lane few hand view = record {
    empty = hand;
    stage = ap (λ (v : V). v.stage) view;
    left = n;
    count = omega arith;
    calls = let c : m.0.calls ≡ limit = ap (λ (v : V). v.calls) view in omega (arith, c);
    owns = ap (λ (v : V). v.owns) view;
  }

  pub first_dealing : (m : Me O V) (n : ℕ) → 0 < n → n ≤ 8 → m ≡ (opener n (start_of first), []) → Dealing 1 n (start_of first) m
  first_dealing m n some_lane few is = first_from m n some_lane few (ap (λ (x : Me O V). x.1) is) (ap (λ (x : Me O V). x.0) is)

  dealing_on : (k n : ℕ) (m w : Me O V) (left : ℕ) → k < n → k + left ≡ n → calls_of_pass * left + calls_of_pass ≤ m.0.calls → m.1 ≡ [] → m.0.stage ≡ 0 → m.0.owns ≡ share k (start_of first) ∷ shares (k + 1) left (start_of first)
      → w ≡ (stays m.0, m.1) → Dealing (k + 1) n (start_of first) w
  dealing_on k n m w zero more count calls hand stage owns is = absurd (omega (arith, more, count))
  dealing_on k n m w (suc left) more count calls hand stage owns is = record {
    empty = ap (λ (x : Me O V). x.1) is ∙ hand;
    stage = ap (λ (x : Me O V). x.0.stage) is ∙ stage;
    left = left;
    count = omega (arith, count);
    calls = let c : w.0.calls ≡ m.0.calls - calls_of_pass = ap (λ (x : Me O V). x.0.calls) is in omega (arith, c, calls);
    owns = ap (λ (x : Me O V). x.0.owns) is ∙ ap (λ (l : List S). rest_of l) owns;
  }

  pub next_dealing : (k n : ℕ) (m w : Me O V) → k < n → Dealing k n (start_of first) m → w ≡ (stays m.0, m.1) → Dealing (k + 1) n (start_of first) w
  next_dealing k n m w more d is = dealing_on k n m w d.left more d.count d.calls d.empty d.stage d.owns is

  pub splits_dealing : (id k n : ℕ) (m : Me O V) → Dealing k n (start_of first) m → Splits (Kept history start_of lanes first) id m.0 (stays m.0) (leaves m.0)
  splits_dealing id k n m d = let c = d.calls in splits id m.0 (share k (start_of first)) (shares (k + 1) d.left (start_of first)) d.stage (omega (arith, c)) d.owns

  pub dealt : (k n : ℕ) (m w : Me O V) → Dealing k n (start_of first) m → w ≡ (leaves m.0, []) → Rests k 0 w × (◌≡◌ {A = ℕ} 0 0) × (entries_of w.0.owns ≡ [])
  dealt k n m w d is = (
    record {
      empty = ap (λ (x : Me O V). x.1) is;
      stage = ap (λ (x : Me O V). x.0.stage) is ∙ d.stage;
      calls = let c : w.0.calls ≡ calls_of_pass = ap (λ (x : Me O V). x.0.calls) is in omega (arith, c);
      own = share k (start_of first);
      owns = ap (λ (x : Me O V). x.0.owns) is ∙ ap (λ (l : List S). first_of l) d.owns;
      lane = refl;
    },
    refl,
    ap (λ (l : List S). entries_of l) (ap (λ (x : Me O V). x.0.owns) is ∙ ap (λ (l : List S). first_of l) d.owns),
  )

  kept_share : (k n : ℕ) (m : Me O V) (left : ℕ) → n ≤ k → k + left ≡ n → calls_of_pass * left + calls_of_pass ≤ m.0.calls → m.1 ≡ [] → m.0.stage ≡ 0 → m.0.owns ≡ share k (start_of first) ∷ shares (k + 1) left (start_of first)
      → Rests k 0 m × (◌≡◌ {A = ℕ} 0 0) × (entries_of m.0.owns ≡ [])
  kept_share k n m (suc left) last count calls hand stage owns = absurd (omega (arith, last, count))
  kept_share k n m zero last count calls hand stage owns = (
    record { empty = hand; stage = stage; calls = omega (arith, calls); own = share k (start_of first); owns = owns; lane = refl },
    refl,
    ap (λ (l : List S). entries_of l) owns,
  )

  pub kept_last : (k n : ℕ) (m : Me O V) → n ≤ k → Dealing k n (start_of first) m → Rests k 0 m × (◌≡◌ {A = ℕ} 0 0) × (entries_of m.0.owns ≡ [])
  kept_last k n m last d = kept_share k n m d.left last d.count d.calls d.empty d.stage d.owns

-- ---- lists of lanes

pub lanes_push : (k n : ℕ) → lanes_from k (suc n) ≡ lanes_from k n ++ (k + n) ∷ []
lanes_push k zero = ap (λ (m : ℕ). m ∷ []) (let e : k ≡ k + 0 = omega arith in e)
lanes_push k (suc n) = ap (λ (l : List ℕ). k ∷ l) (lanes_push (k + 1) n ∙ ap (λ (m : ℕ). lanes_from (k + 1) n ++ m ∷ []) (let e : k + 1 + n ≡ k + suc n = omega arith in e))

pub lanes_on : (k n : ℕ) → 0 < k → n ≡ k → lanes_from 1 (k - 1) ++ k ∷ [] ≡ lanes_from 1 n
lanes_on zero n low e = absurd (omega arith)
lanes_on (suc m) n low e =
    let a : suc m - 1 ≡ m = omega arith in
    let b : suc m ≡ 1 + m = omega arith in
    ap (λ (x : ℕ). lanes_from 1 x ++ suc m ∷ []) a ∙ (ap (λ (x : ℕ). lanes_from 1 m ++ x ∷ []) b ∙ (sym (lanes_push 1 m) ∙ ap (λ (x : ℕ). lanes_from 1 x) (sym e)))

module _ {P : Type 0} (lane : P → ℕ) where
  among_at : (n : ℕ) (items : List P) (k : ℕ) (x : P) → k < length items → get_or items k x ≡ x → lane x ≡ n → Among n (map lane items)
  among_at n [] k x below at is = absurd (omega arith)
  among_at n (y ∷ items) zero x below at is = inl (ap lane at ∙ is)
  among_at n (y ∷ items) (suc k) x below at is = inr (among_at n items k x (omega arith) at is)

  pub among : (n : ℕ) (items : List P) → Any (λ p. lane p ≡ n) items → Among n (map lane items)
  among n items a = among_at n items a.0 a.1 a.2 a.3 a.4

  pub any_from : (n : ℕ) (items : List P) → Among n (map lane items) → Any (λ p. lane p ≡ n) items
  any_from n [] a = absurd a
  any_from n (y ∷ items) (inl e) = (0, y, omega arith, refl, e)
  any_from n (y ∷ items) (inr a) = let r = any_from n items a in let below = r.2 in (suc r.0, r.1, omega (arith, below), r.3, r.4)

-- ---- popped and pushed

module _ {P : Type 0} where
  pub popped : (Q : P → Type 0) (xs ys : List P) (r : Chance P) (x : P) → xs ≡ ys ++ option_to_list r → r ≡ Some x → All Q xs → All Q ys × Q x
  popped Q xs ys r x e is all =
      let h = All-pop Q xs ys r e all in (h.0, subst (λ (o : Chance P). IfSome o Q) is h.1)

  pub flat_pop : {X : Type 0} (f : P → List X) (xs ys : List P) (r : Chance P) (x : P) → xs ≡ ys ++ option_to_list r → r ≡ Some x → flat_map f xs ≡ flat_map f ys ++ f x
  flat_pop f xs ys r x e is =
      ap (λ (l : List P). flat_map f l) (e ∙ ap (λ (o : Chance P). ys ++ option_to_list o) is)
      ∙ (flat_map-append f ys (x ∷ []) ∙ ap (λ l. flat_map f ys ++ l) (append-nil (f x)))

-- ---- the end

module _ {O Order Answer Start : Type 0} (history : O → List (Entry Order Answer)) (start_of : O → Start) where
  alone_there : (v u : View Order Answer Start) (j : ℕ) → get_elem? (v ∷ []) j ≡ some u → (j ≡ 0) × (v ≡ u)
  alone_there v u zero e = (refl, some-injective v u e)
  alone_there v u (suc j) e = absurd (some-ne-none u (sym e))

  above : (k j n : ℕ) (begun : Start) → j < k → Each (λ m. j ≢ m) (map (λ a. a.lane) (shares {Order = Order} {Answer = Answer} k n begun))
  above k j zero begun low = tt
  above k j (suc n) begun low = ((λ e. omega (arith, e, low)), above (k + 1) j n begun (omega (arith, low)))

  shares_apart : (k n : ℕ) (begun : Start) → Separate (map (λ a. a.lane) (shares {Order = Order} {Answer = Answer} k n begun))
  shares_apart k zero begun = tt
  shares_apart k (suc n) begun = (above (k + 1) k n begun (omega arith), shares_apart (k + 1) n begun)

  shares_owned : (lanes : ℕ) (before k n : ℕ) (begun : Start) → 0 < k → k + n ≤ lanes + 1 → Each (Owned {Order = Order} {Answer = Answer} lanes before begun []) (shares k n begun)
  shares_owned lanes before k zero begun low high = tt
  shares_owned lanes before k (suc n) begun low high = (
    record { lane = (low, omega (arith, high)); start = refl; known = omega arith; mine = refl; seen = ap (λ es. of_lane k es) (sym (take_all (0 - before) [] (omega arith))) },
    shares_owned lanes before (k + 1) n begun (omega arith) (omega (arith, high)),
  )

  shares_length : (k n : ℕ) (begun : Start) → length (shares {Order = Order} {Answer = Answer} k n begun) ≡ n
  shares_length k zero begun = refl
  shares_length k (suc n) begun = ap suc (shares_length (k + 1) n begun)

  -- the rule holds at the start
  pub opens : (lanes : ℕ) (o : O) (n : ℕ) → 0 < lanes → n ≡ length (history o) → Kept history start_of lanes o (opening (0 ∷ 0 ∷ n ∷ []) (o ∷ []) (opener lanes (start_of o)))
  opens lanes o n some_lane is =
      let v : View Order Answer Start = opener lanes (start_of o) in
      let fits : Fits lanes (history o) (start_of o) 0 0 [] (some o) v = record {
        waits = λ h. absurd (omega (arith, h));
        now = λ h. absurd (omega (arith, h));
        knows = λ h. absurd (omega (arith, h));
        has = λ h. absurd (omega (arith, h.0));
        idle = λ z. refl;
        owns = shares_owned lanes (length (history o)) 1 lanes (start_of o) (omega arith) (omega arith);
        separate = shares_apart 1 lanes (start_of o);
      } in record {
        next = 0;
        served = 0;
        behind = [];
        home = some o;
        words = ap (λ k. 0 ∷ 0 ∷ k ∷ []) (is ∙ ap length (sym (append-nil (history o))));
        homes = refl;
        inside = λ p e. (ap history (sym (some-injective o p e)) ∙ sym (append-nil (history o)), ap start_of (sym (some-injective o p e)));
        away = λ e. absurd (some-ne-none o e);
        each = λ j u g. subst (Fits lanes (history o) (start_of o) 0 0 [] (some o)) (alone_there v u j g).1 fits;
        tickets = λ i j u w ne a b. absurd (ne ((alone_there v u i a).0 ∙ sym (alone_there v w j b).0));
        foreign = λ i j u w ne a b. absurd (ne ((alone_there v u i a).0 ∙ sym (alone_there v w j b).0));
        given = tt;
        budget = omega arith;
        order = omega arith;
      }

  -- a seat that has a share
  some_lane : (lanes before : ℕ) (begun : Start) (behind : List (Entry Order Answer)) (as' : List (Share Order Answer Start)) → 0 < length as' → Each (Owned lanes before begun behind) as'
      → (n : ℕ) × (0 < n) × (n ≤ lanes) × ((ms : List ℕ) → Foreign (map (λ a. a.lane) as') ms → Each (λ m. n ≢ m) ms)
  some_lane lanes before begun behind [] h own = absurd (omega arith)
  some_lane lanes before begun behind (a ∷ as') h own = (a.lane, own.0.lane.0, own.0.lane.1, (λ ms f. f.0))

  -- where one seat has every lane, the object is at home
  all_home : (lanes : ℕ) (first : O) (s : State O (View Order Answer Start)) (k : Kept history start_of lanes first s) (id : ℕ) (v : View Order Answer Start) → get_elem? s.views id ≡ some v → v.stage ≡ 0
      → ((n : ℕ) → 0 < n → n ≤ lanes → Among n (lanes_of v))
      → (home : Option O) → k.home ≡ home → (o : O) × (get_elem? s.homes 0 ≡ some (some o)) × (history o ≡ history first ++ k.behind) × (start_of o ≡ start_of first)
  all_home lanes first s k id v at stage every (some o) e = (o, ap (λ hs. get_elem? hs 0) k.homes ∙ ap some e, (k.inside o e).0, (k.inside o e).1)
  all_home lanes first s k id v at stage every none e =
      let hold = k.away e in
      let u : View Order Answer Start = hold.1 in
      absurd (⊎_elim
      (λ (q : hold.0 ≡ id). let same : u ≡ v = one_there s.views id u v (subst (λ (j : ℕ). get_elem? s.views j ≡ some u) q hold.2) at in
      let core : HasObject v = subst HasObject same hold.3 in omega (arith, core.0, stage))
      (λ (q : hold.0 ≢ id).
      let f = k.each hold.0 u hold.2 in
      let busy : 0 < length u.owns = some_owned u.owns u.stage f.idle hold.3.0 in
      let n = some_lane lanes (length (history first)) (start_of first) k.behind u.owns busy f.owns in
      not_among n.0 (lanes_of v) (n.3 (lanes_of v) (k.foreign hold.0 id u v q hold.2 at)) (every n.0 n.1 n.2))
      (eq_or_ne hold.0 id)) where
        some_owned : (l : List (Share Order Answer Start)) (stage : ℕ) → (length l ≡ 0 → stage ≡ 0) → 4 ≤ stage → 0 < length l
        some_owned [] stage idle high = let z = idle refl in absurd (omega (arith, z, high))
        some_owned (a ∷ l) stage idle high = omega arith

  -- what every pass knows of the whole, from what the joined seat knows
  account_all : {P : Type 0} (lane : P → ℕ) (me : P → Me O (View Order Answer Start)) (step : P → ℕ) (A : Share Order Answer Start → Type 0) (B : Account Order Answer → Type 0)
      → ((p : P) (r : Rests (lane p) (step p) (me p)) → A r.own → B (account (lane p) (me p).0))
      → (items : List P) → Each (λ p. Rests (lane p) (step p) (me p)) items → Each A (flat_map (λ p. (me p).0.owns) items) → Each B (map (λ p. account (lane p) (me p).0) items)
  account_all lane me step A B goes [] rest all = tt
  account_all lane me step A B goes (p ∷ items) rest all =
      let r : Rests (lane p) (step p) (me p) = rest.0 in
      let front : Each A (me p).0.owns = each_front A (me p).0.owns (flat_map (λ q. (me q).0.owns) items) all in
      (goes p r (subst (λ (l : List (Share Order Answer Start)). Each A l) r.owns front).0, account_all lane me step A B goes items rest.1 (each_back A (me p).0.owns (flat_map (λ q. (me q).0.owns) items) all))

  lanes_flat : {P : Type 0} (lane : P → ℕ) (me : P → Me O (View Order Answer Start)) (step : P → ℕ) (items : List P) → Each (λ p. Rests (lane p) (step p) (me p)) items
      → map (λ a. a.lane) (flat_map (λ p. (me p).0.owns) items) ≡ map lane items
  lanes_flat lane me step [] rest = refl
  lanes_flat lane me step (p ∷ items) rest =
      let r : Rests (lane p) (step p) (me p) = rest.0 in
      map-append (λ (a : Share Order Answer Start). a.lane) (me p).0.owns (flat_map (λ q. (me q).0.owns) items)
      ∙ (ap (λ (l : List (Share Order Answer Start)). map (λ a. a.lane) l ++ map (λ a. a.lane) (flat_map (λ q. (me q).0.owns) items)) r.owns
      ∙ (ap (λ (n : ℕ). n ∷ map (λ a. a.lane) (flat_map (λ q. (me q).0.owns) items)) r.lane
      ∙ ap (λ (l : List ℕ). lane p ∷ l) (lanes_flat lane me step items rest.1)))

  lanes_told : {P : Type 0} (lane : P → ℕ) (me : P → Me O (View Order Answer Start)) (items : List P) → map (λ a. a.lane) (map (λ p. account (lane p) (me p).0) items) ≡ map lane items
  lanes_told lane me [] = refl
  lanes_told lane me (p ∷ items) = ap (λ (l : List ℕ). lane p ∷ l) (lanes_told lane me items)

  pub closes : {P : Type 0} (lane : P → ℕ) (me : P → Me O (View Order Answer Start)) (step : P → ℕ) (items : List P) (lanes : ℕ) (first : O) (id : ℕ) (v : View Order Answer Start) (ws : List ℕ) (xs : List O) (x : O)
      → ((p : P) → Rests (lane p) (step p) (me p)) → IsAll lanes (map lane items) → v.stage ≡ 0 → v.owns ≡ flat_map (λ p. (me p).0.owns) items
      → Final (Seen (Kept history start_of lanes first) id v) ws xs → get_elem? xs 0 ≡ some x
      → Returned history start_of first x (map (λ p. account (lane p) (me p).0) items)
  closes {P = P} lane me step items lanes first id v ws xs x each_rests every stage owns final there =
      let rest : Each (λ p. Rests (lane p) (step p) (me p)) items = each_of (λ p. Rests (lane p) (step p) (me p)) each_rests items in
      let s = final.0 in
      let k = final.1.0 in
      let f = k.each id v final.1.1 in
      let numbers : lanes_of v ≡ map lane items = ap (λ (l : List (Share Order Answer Start)). map (λ a. a.lane) l) owns ∙ lanes_flat lane me step items rest in
      let home = all_home lanes first s k id v final.1.1 stage (λ n low high. subst (Among n) (sym numbers) (every.1 n low high)) k.home refl in
      let same : x ≡ home.0 = some-injective x home.0 (sym there ∙ final.4 0 home.0 home.1) in
      let whole : history x ≡ history first ++ k.behind = ap history same ∙ home.2 in
      let long : length (history x) ≡ length (history first) + length k.behind = ap length whole ∙ length-append (history first) k.behind in
      let own : Each (Owned lanes (length (history first)) (start_of first) k.behind) (flat_map (λ p. (me p).0.owns) items) =
      subst (λ (l : List (Share Order Answer Start)). Each (Owned lanes (length (history first)) (start_of first) k.behind) l) owns f.owns in
      record {
        start = ap start_of same ∙ home.3;
        behind = k.behind;
        begins = whole;
        each = account_all lane me step (Owned lanes (length (history first)) (start_of first) k.behind) (λ p. p.entries ≡ of_lane p.lane k.behind)
            (λ p r o. ap (λ (l : List (Share Order Answer Start)). entries_of l) r.owns ∙ (o.mine ∙ ap (λ (n : ℕ). of_lane n k.behind) r.lane)) items rest own;
        others = each_weaker (λ e. (0 < e.lane) × (e.lane ≤ lanes)) (λ e. Among e.lane (map (λ p. p.lane) (map (λ p. account (lane p) (me p).0) items)))
            (λ e within. subst (Among e.lane) (sym (lanes_told lane me items)) (every.1 e.lane within.0 within.1)) k.behind k.given;
        seen = account_all lane me step (Owned lanes (length (history first)) (start_of first) k.behind)
            (λ p. (p.known ≤ length (history x)) × (p.entries ≡ of_lane p.lane (take (p.known - length (history first)) k.behind)))
            (λ p r o. let knows : known_of (me p).0.owns ≡ r.own.known = ap (λ (l : List (Share Order Answer Start)). known_of l) r.owns in let known = o.known in (
              omega (arith, knows, known, long),
              ap (λ (l : List (Share Order Answer Start)). entries_of l) r.owns
                  ∙ (o.seen ∙ (ap (λ (n : ℕ). of_lane n (take (r.own.known - length (history first)) k.behind)) r.lane
                  ∙ ap (λ (n : ℕ). of_lane (lane p) (take (n - length (history first)) k.behind)) (sym knows))),
            )) items rest own;
      }
