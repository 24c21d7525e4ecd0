-- Modules that a submit adds to others. Callers want `submitted_more`, `weight_more`, `own_target` and `none_if`.
use Rattle.std.proofs.Common.{◌≡◌, ◌≢◌, ℕ, ◌+◌, Bool, eqb, ◌&&◌, List, [], ◌∷◌, ◌++◌, Option}
use Rattle.std.proofs.Common.{Some, None, sym, ap, ◌∙◌, refl, inl, inr, arith}
use Rattle.std.specs.Prelude.{find, slice_get}
use Rattle.std.specs.Option.{option_map, option_or}
use Rattle.std.proofs.lemmas.List.Folds.{find-append}
use Rattle.std.proofs.lemmas.List.Sums.{sum_by-append}
use Rattle.apex_base.specs.declared.numbers.SessionId.{SessionId}
use Rattle.apex_base.specs.declared.records.Part.{Part}
use Rattle.apex_base.specs.declared.records.Record.{Record}
use Rattle.apex_base.specs.declared.records.Target.{Target}
use Rattle.apex_base.specs.declared.records.Target.TheVariants as targets
use Rattle.apex_base.specs.Held.{kept}
use Rattle.apex_base.specs.Members.{In}
use Rattle.apex_base.specs.Modules.{FileMap}
use Rattle.apex_base.specs.Sessions.{session_of}
use Rattle.apex_base.proofs.Finding.{some_then, is_there}
use Rattle.apex_base.proofs.SessionLemmas.{of_found}
use Rattle.apex_world.specs.declared.modules.Package.{Package}
use Rattle.apex_world.specs.declared.world.Submission.{Submission}
use Rattle.apex_world.specs.Lawful.{Lawful, part_at_place}
use Rattle.apex_world.specs.Limits.{target_weight, weight_of}
use Rattle.apex_world.specs.Selection.{submitted_by}
use Rattle.apex_world.specs.Submit.{parts_from}
use Rattle.apex_world.specs.World.{World}
use Rattle.world_facts.proofs.facts.WorldRows.{submission_of}

abbrev content_of : Option Submission → Option FileMap
content_of o = option_map (λ s. s.content) o

map_or : (a b c : Option Submission) → content_of a ≡ content_of b
    → content_of (option_or a c) ≡ content_of (option_or b c)
map_or None None c e = refl
map_or None (Some y) c e = absurd (cc)
map_or (Some x) None c e = absurd (cc)
map_or (Some x) (Some y) c e = e

-- modules that are submitted after others
pub submitted_more : (ms ms' new : List Submission) (session : SessionId) (part : ℕ)
    → submitted_by ms session part ≡ submitted_by ms' session part
    → submitted_by (ms ++ new) session part ≡ submitted_by (ms' ++ new) session part
submitted_more ms ms' new session part e =
    let test : Submission → Bool = λ s. eqb s.session.0 session.0 && eqb s.part part in
    ap content_of (find-append test ms new) ∙ map_or (find test ms) (find test ms') (find test new) e
    ∙ ap content_of (sym (find-append test ms' new))

-- lists that have the same files weigh the same with more of them
pub weight_more : (ss : List Record) (ms ms' new : List Submission) → weight_of ss ms ≡ weight_of ss ms'
    → weight_of ss (ms ++ new) ≡ weight_of ss (ms' ++ new)
weight_more ss ms ms' new e =
    let a = sum_by-append (target_weight (kept ss)) ms new in
    let b = sum_by-append (target_weight (kept ss)) ms' new in
    omega (arith, a, b, e)

-- the session whose module a target is
abbrev pub target_session : SessionId → Target → SessionId
target_session id targets.Preinstalled = id
target_session id (targets.Module session part version) = session

-- the targets of a new session are its own
pub own_target : (id : SessionId) (k : ℕ) (ps : List Package) (q : Part) → In q (parts_from id k ps)
    → target_session id q.target ≡ id
own_target id k [] q h = absurd h
own_target id k (p ∷ ps) q (inl e) = ap (λ (q : Part). target_session id q.target) (sym e)
own_target id k (p ∷ ps) q (inr h) = own_target id (k + 1) ps q h

-- a session that isn't there has no modules
pub none_if : (z : World) → Lawful z → (id : SessionId) → ((r : Record) → In r z.sessions → r.id.0 ≢ id.0) → (part : ℕ)
    → (o : Option FileMap) → submitted_by z.modules id part ≡ o → o ≡ None
none_if z law id unused part None e = refl
none_if z law id unused part (Some m) e =
    let (s, h, es, ep, ec) = submission_of z.modules id part m e in
    let (p, f) = is_there (part_at_place z.sessions s.session s.part) (law.modules.owned s h) in
    let (r, g, i) = some_then (λ (r : Record). slice_get r.parts s.part) (session_of z.sessions s.session) p f in
    let (j, is) = of_found z.sessions s.session r g in
    absurd (unused r j (is ∙ ap (λ (id : SessionId). id.0) es))
