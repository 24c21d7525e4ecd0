-- The rule of the table behind a turn, and what each kind of step does: docs/turn.md.
use Rattle.std.specs.Prelude.{◌≡◌, ◌≢◌, ◌⊎◌, ℕ, zero, suc, ◌+◌, ◌-◌, ◌*◌, ◌<◌, ◌≤◌, List, [], ◌∷◌, ◌++◌, length, map, take, drop}
use Rattle.std.specs.List.{AllByRecursion as Each}
use mathlib.Core.Option.{Option, some, none}
use lib.ListN.{get_elem?}
use Rattle.atomic_table.specs.Table.{State, Me, Step}
use Rattle.call_turn.specs.declared.Entry.{Entry}
use Rattle.call_turn.specs.declared.Share.{Share}
use Rattle.call_turn.specs.declared.View.{View}
use Rattle.call_turn.specs.History.{of_lane, Account}

-- the calls that one pass may make, and all that the turn may see
abbrev pub calls_of_pass : ℕ
calls_of_pass = 4294967295

abbrev pub limit : ℕ
limit = 34359738360

module _ {Order Answer : Type 0} where
  -- no entry more, or one of this lane
  abbrev pub Grown : ℕ → List (Entry Order Answer) → List (Entry Order Answer) → Type 0
  Grown lane before after = (after ≡ before) ⊎ ((e : Entry Order Answer) × (e.lane ≡ lane) × (after ≡ before ++ e ∷ []))

-- no number twice
abbrev pub Separate : List ℕ → Type 0
Separate [] = Unit {0}
Separate (n ∷ ns) = Each (λ m. n ≢ m) ns × Separate ns

-- no number of the one is one of the other
abbrev pub Foreign : List ℕ → List ℕ → Type 0
Foreign ns ms = Each (λ n. Each (λ m. n ≢ m) ms) ns

module _ {Order Answer Start : Type 0} where
  abbrev pub share : ℕ → Start → Share Order Answer Start
  share lane start = record { lane = lane; start = start; mine = []; known = 0 }

  -- a share for each of n lanes, from the lane k on
  abbrev pub shares : ℕ → ℕ → Start → List (Share Order Answer Start)
  shares k zero start = []
  shares k (suc n) start = share k start ∷ shares (k + 1) n start

  -- the view of the first seat, which has every lane
  abbrev pub opener : ℕ → Start → View Order Answer Start
  opener lanes start = record { stage = 0; ticket = 0; calls = limit; owns = shares 1 lanes start; held = [] }

  abbrev pub spent : View Order Answer Start
  spent = record { stage = 0; ticket = 0; calls = 0; owns = []; held = [] }

  abbrev pub first_of : List (Share Order Answer Start) → List (Share Order Answer Start)
  first_of [] = []
  first_of (a ∷ rest) = a ∷ []

  abbrev pub rest_of : List (Share Order Answer Start) → List (Share Order Answer Start)
  rest_of [] = []
  rest_of (a ∷ rest) = rest

  -- the first share goes to a new seat, with the calls of one pass
  abbrev pub stays : View Order Answer Start → View Order Answer Start
  stays v = record v { calls = v.calls - calls_of_pass; owns = rest_of v.owns }

  abbrev pub leaves : View Order Answer Start → View Order Answer Start
  leaves v = record v { calls = calls_of_pass; owns = first_of v.owns }

  -- the shares of the second go before those of the first
  abbrev pub joined : View Order Answer Start → View Order Answer Start → View Order Answer Start
  joined v w = record v { calls = v.calls + w.calls; owns = w.owns ++ v.owns }

  abbrev pub lanes_of : View Order Answer Start → List ℕ
  lanes_of v = map (λ a. a.lane) v.owns

  abbrev pub Pairs : (View Order Answer Start → View Order Answer Start → Type 0) → List (View Order Answer Start) → Type 0
  Pairs R views = (i j : ℕ) (v w : View Order Answer Start) → i ≢ j → get_elem? views i ≡ some v → get_elem? views j ≡ some w → R v w

  -- two tickets differ
  abbrev pub Apart : View Order Answer Start → View Order Answer Start → Type 0
  Apart v w = 0 < v.stage → 0 < w.stage → v.ticket ≢ w.ticket

  abbrev pub OtherLanes : View Order Answer Start → View Order Answer Start → Type 0
  OtherLanes v w = Foreign (lanes_of v) (lanes_of w)

  abbrev pub HasObject : View Order Answer Start → Type 0
  HasObject v = (4 ≤ v.stage) × (v.stage < 6)

  -- some seat has the object in its hand
  abbrev pub Holder : List (View Order Answer Start) → Type 0
  Holder views = (j : ℕ) × (v : View Order Answer Start) × (get_elem? views j ≡ some v) × HasObject v

  abbrev pub calls_left : List (View Order Answer Start) → ℕ
  calls_left [] = 0
  calls_left (v ∷ views) = v.calls + calls_left views

  -- What a share says: its lane is one of those given, its entries are those of its lane behind the first ones, and all of them stand among the first `known` of all
  pub record Owned (lanes first : ℕ) (begun : Start) (behind : List (Entry Order Answer)) (a : Share Order Answer Start) : Type 0 where
    pub lane : (0 < a.lane) × (a.lane ≤ lanes)
    pub start : a.start ≡ begun
    pub known : a.known ≤ first + length behind
    pub mine : a.mine ≡ of_lane a.lane behind
    pub seen : a.mine ≡ of_lane a.lane (take (a.known - first) behind)

  -- what a view knows. Its stage is 1 with a ticket, 2 where that is served, 3 with the history at hand, 4 with the object, 5 with its entry counted, 6 with the object at home
  pub record Fits {O : Type 0} (lanes : ℕ) (before : List (Entry Order Answer)) (start : Start) (next served : ℕ) (behind : List (Entry Order Answer)) (home : Option O) (v : View Order Answer Start) : Type 0 where
    pub waits : 0 < v.stage → (served ≤ v.ticket) × (v.ticket < next)
    pub now : 2 ≤ v.stage → v.ticket ≡ served
    pub knows : 3 ≤ v.stage → v.held ≡ before ++ behind
    pub has : HasObject v → home ≡ none
    pub idle : length v.owns ≡ 0 → v.stage ≡ 0
    pub owns : Each (Owned lanes (length before) start behind) v.owns
    pub separate : Separate (lanes_of v)

  abbrev pub knowing : ℕ → Share Order Answer Start → Share Order Answer Start
  knowing n a = record a { known = n }

  -- a share with the entries of its lane that came behind those held
  abbrev pub grown_by : List (Entry Order Answer) → List (Entry Order Answer) → Share Order Answer Start → Share Order Answer Start
  grown_by held now a = record a { mine = a.mine ++ of_lane a.lane (drop (length held) now); known = length now }

  -- A seat at rest, of one lane. With the calls made, a pass began with at least its number of calls
  pub record Rests {O : Type 0} (number step : ℕ) (m : Me O (View Order Answer Start)) : Type 0 where
    pub empty : m.1 ≡ []
    pub stage : m.0.stage ≡ 0
    pub calls : calls_of_pass ≤ m.0.calls + step
    pub own : Share Order Answer Start
    pub owns : m.0.owns ≡ own ∷ []
    pub lane : own.lane ≡ number

  -- the first seat as the passes are given: it has the lanes from this one on
  pub record Dealing {O : Type 0} (number lanes : ℕ) (begun : Start) (m : Me O (View Order Answer Start)) : Type 0 where
    pub empty : m.1 ≡ []
    pub stage : m.0.stage ≡ 0
    pub left : ℕ
    pub count : number + left ≡ lanes
    pub calls : calls_of_pass * left + calls_of_pass ≤ m.0.calls
    pub owns : m.0.owns ≡ share number begun ∷ shares (number + 1) left begun

  abbrev pub entries_of : List (Share Order Answer Start) → List (Entry Order Answer)
  entries_of [] = []
  entries_of (a ∷ rest) = a.mine

  abbrev pub lane_of : List (Share Order Answer Start) → ℕ
  lane_of [] = 0
  lane_of (a ∷ rest) = a.lane

  abbrev pub known_of : List (Share Order Answer Start) → ℕ
  known_of [] = 0
  known_of (a ∷ rest) = a.known

module _ {O Order Answer Start : Type 0} where
  -- What a pass keeps, in numbers: nothing in its hand, no ticket, one lane, and the calls that are left
  abbrev pub IsIdle : ℕ → ℕ → Me O (View Order Answer Start) → Type 0
  IsIdle number step m = (length m.1 ≡ 0) × (m.0.stage ≡ 0) × (calls_of_pass ≤ m.0.calls + step) × (length m.0.owns ≡ 1) × (lane_of m.0.owns ≡ number)

abbrev pub account : {Order Answer Start : Type 0} → ℕ → View Order Answer Start → Account Order Answer
account lane v = record { lane = lane; entries = entries_of v.owns; known = known_of v.owns }

module _ {O Order Answer Start : Type 0} (history : O → List (Entry Order Answer)) (start_of : O → Start) where
  -- the words are the next ticket, the ticket served and the count of entries. `first` is the object as it was given
  pub record Kept (lanes : ℕ) (first : O) (s : State O (View Order Answer Start)) : Type 0 where
    pub next : ℕ
    pub served : ℕ
    pub behind : List (Entry Order Answer)
    pub home : Option O
    pub words : s.words ≡ next ∷ served ∷ length (history first ++ behind) ∷ []
    pub homes : s.homes ≡ home ∷ []
    pub inside : (o : O) → home ≡ some o → (history o ≡ history first ++ behind) × (start_of o ≡ start_of first)
    pub away : home ≡ none → Holder s.views
    pub each : (j : ℕ) (v : View Order Answer Start) → get_elem? s.views j ≡ some v → Fits lanes (history first) (start_of first) next served behind home v
    pub tickets : Pairs Apart s.views
    pub foreign : Pairs OtherLanes s.views
    pub given : Each (λ e. (0 < e.lane) × (e.lane ≤ lanes)) behind
    pub budget : next + calls_left s.views ≤ limit
    pub order : served ≤ next

  abbrev Place : Type 0
  Place = Me O (View Order Answer Start)

  -- a ticket was drawn
  abbrev pub Draws : Step O → Place → ℕ → Place → Type 0
  Draws st m found w = (w.1 ≡ m.1) × (found < limit) × (w.0 ≡ record m.0 { stage = 1; ticket = found; calls = m.0.calls - 1 })

  -- where the ticket found is the seat's own, it is served
  abbrev pub Asks : Step O → Place → ℕ → Place → Type 0
  Asks st m found w = (w.1 ≡ m.1) × (found ≡ m.0.ticket → w.0 ≡ record m.0 { stage = 2 }) × (found ≢ m.0.ticket → w.0 ≡ m.0)

  -- the history so far was seen, and its length found
  abbrev pub Learns : Step O → Place → ℕ → Place → Type 0
  Learns st m found w = (w.1 ≡ m.1) × (length w.0.held ≡ found) × Each (λ a. a.known ≤ found) m.0.owns × (w.0 ≡ record m.0 { stage = 3; held = w.0.held; owns = map (knowing found) m.0.owns })

  -- how far the history is
  abbrev pub Looks : Step O → Place → ℕ → Place → Type 0
  Looks st m found w = (w.1 ≡ m.1) × Each (λ a. a.known ≤ found) m.0.owns × (w.0 ≡ record m.0 { owns = map (knowing found) m.0.owns })

  -- the object is in the hand, with the history seen and the start that it was given with
  abbrev pub Takes : Step O → Place → ℕ → Place → Type 0
  Takes st m found w = (o : O) × (w.1 ≡ (0, o) ∷ []) × (history o ≡ m.0.held) × Each (λ a. start_of o ≡ a.start) m.0.owns × (w.0 ≡ record m.0 { stage = 4 })

  abbrev pub counted : View Order Answer Start → O → View Order Answer Start
  counted v o = record v { stage = 5; held = history o; owns = map (grown_by v.held (history o)) v.owns }

  abbrev pub Counts : Step O → Place → ℕ → Place → Type 0
  Counts st m found w = (o : O) × (m.1 ≡ (0, o) ∷ []) × (w.1 ≡ m.1) × (w.0 ≡ counted m.0 o)

  abbrev pub Gives : Step O → Place → ℕ → Place → Type 0
  Gives st m found w = (w.1 ≡ []) × (w.0 ≡ record m.0 { stage = 6 })

  abbrev pub Passes : Step O → Place → ℕ → Place → Type 0
  Passes st m found w = (w.1 ≡ m.1) × (w.0 ≡ record m.0 { stage = 0 })
