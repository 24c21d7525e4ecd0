-- What a submit of one module comes to: `refused_is`, `over_scale_is` and `accepted_is`. Callers also want
-- `taken_if_found`, `admitted_one`, `seen`, and that nobody had its id: `free` and `nobody_there`.
use Rattle.std.proofs.Common.{◌≡◌, ◌+◌, Bool, true, false, cond, ◌||◌, List, [], ◌∷◌, Option, Some, None, is_some, find}
use Rattle.std.proofs.Common.{Result, Ok, Err, Bor, sym, ap, ◌∙◌, refl, inl, inr, arith}
use Rattle.std.specs.List.{list_any, sum_by}
use Rattle.std.specs.Option.{option_copied}
use Rattle.std.proofs.lemmas.List.Sums.{sum_by-cons}
use Rattle.apex_base.specs.declared.numbers.Scale.{Scale}
use Rattle.apex_base.specs.declared.numbers.SessionId.{SessionId}
use Rattle.apex_base.specs.declared.records.Pick.{Pick}
use Rattle.apex_base.specs.declared.records.Record.{Record}
use Rattle.apex_base.specs.declared.refusal.Refusal.{Refusal}
use Rattle.apex_base.specs.Keys.{RowMap}
use Rattle.apex_base.specs.Modules.{FileMap, module_weight}
use Rattle.apex_base.specs.Results.{◌>>=◌}
use Rattle.apex_base.specs.Sessions.{has_id, session_of}
use Rattle.apex_base.proofs.SessionLemmas.{of_found}
use Rattle.apex_world.specs.declared.calls.Image.{Image}
use Rattle.apex_world.specs.declared.modules.Package.{Package}
use Rattle.apex_world.specs.Limits.{units, weight}
use Rattle.apex_world.specs.Soundness.{checked}
use Rattle.apex_world.specs.Step.{submit}
use Rattle.apex_world.specs.Stepped.{refused, done, replied}
use Rattle.apex_world.specs.Submit.{is_taken, id_taken, package_of, not_preinstalled, key_differs}
use Rattle.apex_base.specs.Commit.{is_caller_id}
use Rattle.apex_world.specs.Submit.{overlap, downgrade, or_else, pass, admitted, entered, sessions_full, store_full}
use Rattle.apex_world.specs.Submit.{within_scale}
use Rattle.apex_world.specs.World.{World}
use Rattle.world_laws.proofs.runs.AdmittedLemmas.{IsAdmitted, admitted_is}
use Rattle.world_laws.proofs.alike.EnteredSessions.{unused}
use Rattle.world_laws.proofs.rows.SubmitWeight.{submit_weight, submit_units}
use Rattle.call_judge.specs.declared.tables.Tables.{Tables}
use Rattle.call_judge.specs.Stands.{StandsFor}
use Rattle.call_judge.specs.Submitting.{Show, part_refusal, too_many, too_heavy}

some_first : (b : Bool) (x : Record) (o : Option Record) → is_some (cond b (Some x) o) ≡ (b || is_some o)
some_first true x o = refl
some_first false x o = refl

-- one is found if and only if one passes
found_any : (p : Record → Bool) (xs : List Record) → is_some (find p xs) ≡ list_any p xs
found_any p [] = refl
found_any p (x ∷ xs) = some_first (p x) x (find p xs) ∙ ap (λ (b : Bool). p x || b) (found_any p xs)

some_copied : (o : Option (Bor Record)) → is_some o ≡ is_some (option_copied o)
some_copied None = refl
some_copied (Some r) = refl

-- an id is taken if and only if its session is found
pub taken_if_found : (xs : List Record) (id : SessionId) (o : Option (Bor Record))
    → option_copied o ≡ find (has_id id) xs → is_some o ≡ is_taken xs id
taken_if_found xs id o e = some_copied o ∙ ap is_some e ∙ found_any (has_id id) xs

-- a value, or the refusal that was met
abbrev judged : {T : Type 0} → T → Option Refusal → Result T Refusal
judged x None = Ok x
judged x (Some refusal) = Err refusal

four : {T : Type 0} (a b c d : Option Refusal) (x : T)
    → (pass (or_else a None) >>= λ _. pass (or_else b None) >>= λ _. pass (or_else c None)
    >>= λ _. pass (or_else d None) >>= λ _. Ok x)
    ≡ judged x (or_else a (or_else b (or_else c d)))
four (Some r) b c d x = refl
four None (Some r) c d x = refl
four None None (Some r) d x = refl
four None None None (Some r) x = refl
four None None None None x = refl

-- what the one module of a submit comes to, by what the tables show
pub admitted_one : (tables : Tables) (w : World) (id : SessionId) (m : FileMap) (p : Package) (o : Option Refusal)
    → Show tables w → is_caller_id id ≡ true → is_taken tables.sessions.items id ≡ false
    → package_of 1 m (checked m) ≡ Ok p
    → part_refusal (Some tables.image) w.sessions tables.active p ≡ o
    → admitted w id [] (m ∷ []) ≡ judged (p ∷ []) o
admitted_one tables w id m p o seen caller free sound refusal =
    let unused : is_taken w.sessions id ≡ false =
    ap (λ (ss : List Record). is_taken ss id) (sym seen.sessions) ∙ free in
    let same : part_refusal w.image w.sessions w.active p ≡ o =
    ap (λ (i : Option Image). part_refusal i w.sessions w.active p) (sym seen.image)
    ∙ ap (λ (ps : List Pick). part_refusal (Some tables.image) w.sessions ps p) (sym seen.active)
    ∙ refusal in
    let known = not_preinstalled w.image p in
    let alone = overlap w.sessions p in
    let all : admitted w id [] (m ∷ []) ≡ judged (p ∷ []) (part_refusal w.image w.sessions w.active p) =
    rw (caller, unused, sound) (four known (key_differs w.image p) alone (downgrade w.active w.image p) (p ∷ [])) in
    all ∙ ap (judged (p ∷ [])) same

two : {T : Type 0} (a b : Option Refusal) (x : T) → (pass a >>= λ _. pass b >>= λ _. Ok x) ≡ judged x (or_else a b)
two (Some r) b x = refl
two None (Some r) x = refl
two None None x = refl

-- what a submit comes to that is refused
pub refused_is : (w : World) (id : SessionId) (m : FileMap) (refusal : Refusal)
    → admitted w id [] (m ∷ []) ≡ Err refusal → submit w id [] false (m ∷ []) ≡ refused w refusal
refused_is w id m refusal e =
    ap (λ (o : Result (List Package) Refusal). replied w (o >>= λ ps. within_scale (entered w id [] false ps))) e

module _ (kept : RowMap) (tables : Tables) (w : World) (s : StandsFor kept tables w) where
  -- the tables show the world that they stand for
  pub seen : Show tables w
  seen = record { sessions = s.sessions; unfinished = s.unfinished; image = s.image; active = s.active }

  module _ (id : SessionId) (m : FileMap) (p : Package) (ok : admitted w id [] (m ∷ []) ≡ Ok (p ∷ [])) where
    is : IsAdmitted w id [] (m ∷ []) (p ∷ [])
    is = admitted_is w id [] (m ∷ []) (p ∷ []) ok

    -- no session has the id
    pub free : id_taken w.sessions [] (id ∷ []) ≡ None
    free = is.free

    nobody_if : (o : Option Record) → session_of w.sessions id ≡ o → o ≡ None
    nobody_if None e = refl
    nobody_if (Some r) e =
        let (there, same) = of_found w.sessions id r e in
        absurd (unused w s.running.lawful id [] false (p ∷ []) free r there same)

    pub nobody_there : session_of tables.sessions.items id ≡ None
    nobody_there = ap (λ (ss : List Record). session_of ss id) s.sessions ∙ nobody_if (session_of w.sessions id) refl

    -- the package is that of the module
    content_is : p.content ≡ m
    content_is = elim (is.packages p (inl refl)).among [
      | inl e ↦ sym e
      | inr none ↦ absurd none
    ]

    abbrev after : World
    after = entered w id [] false (p ∷ [])

    -- the limits are those of the world with the new session
    over_scale_same : or_else (too_many tables.scale (tables.units + 1))
        (too_heavy tables.scale (tables.weight + module_weight m))
        ≡ or_else (sessions_full after) (store_full after)
    over_scale_same =
        let more : tables.units + 1 ≡ units after =
        ap (λ n. n + 1) s.units ∙ sym (submit_units w s.running.lawful id [] false (p ∷ []) free) in
        let its : sum_by (λ (q : Package). module_weight q.content) (p ∷ []) ≡ module_weight m =
        sum_by-cons (λ (q : Package). module_weight q.content) p [] ∙ omega arith ∙ ap module_weight content_is in
        let heavier : tables.weight + module_weight m ≡ weight after =
        ap (λ n. n + module_weight m) s.weight ∙ ap (λ n. weight w + n) (sym its)
        ∙ sym (submit_weight w s.running.lawful id [] false (p ∷ []) free) in
        ap (λ (c : Scale). or_else (too_many c (tables.units + 1)) (too_heavy c (tables.weight + module_weight m)))
        s.scale
        ∙ ap (λ n. or_else (too_many w.scale n) (too_heavy w.scale (tables.weight + module_weight m))) more
        ∙ ap (λ n. or_else (sessions_full after) (too_heavy w.scale n)) heavier

    limited : (o : Option Refusal) → o ≡ or_else (too_many tables.scale (tables.units + 1))
        (too_heavy tables.scale (tables.weight + module_weight m))
        → submit w id [] false (m ∷ []) ≡ replied w (judged after o)
    limited o e =
        ap (λ (r : Result (List Package) Refusal). replied w (r >>= λ ps. within_scale (entered w id [] false ps))) ok
        ∙ ap (replied w) (two (sessions_full after) (store_full after) after)
        ∙ ap (λ (r : Option Refusal). replied w (judged after r)) (sym (e ∙ over_scale_same))

    -- what a submit comes to that is over the scale
    pub over_scale_is : (refusal : Refusal) → Some refusal ≡ or_else (too_many tables.scale (tables.units + 1))
        (too_heavy tables.scale (tables.weight + module_weight m))
        → submit w id [] false (m ∷ []) ≡ refused w refusal
    over_scale_is refusal e = limited (Some refusal) e

    -- what one comes to that isn't refused
    pub accepted_is : None ≡ or_else (too_many tables.scale (tables.units + 1))
        (too_heavy tables.scale (tables.weight + module_weight m))
        → submit w id [] false (m ∷ []) ≡ done after
    accepted_is e = limited None e
