-- Whether a world is lawful, as a test that a program can make: docs/rows.md, "Lawful worlds". A test stands for each
-- clause of `Lawful`, in its order.
use Rattle.std.specs.Prelude.{ℕ, ◌+◌, ◌*◌, ◌==◌, ◌&&◌, ◌||◌, Bool, true, false, not, nat_le, nat_lt, is_some, is_none, List, [], ◌∷◌, length, map, Option, Some, None, Result, Ok, Err, if◌then◌else◌, ◌≡◌, refl}
use Rattle.std.specs.Cmp.Lexicographic.{pointwise}
use Rattle.std.specs.List.{list_all, list_any}
use Rattle.std.specs.Str.{bytes_eq}
use Rattle.std.specs.FinMap as fin
use Rattle.apex_base.specs.declared.fault.ModuleFault.{ModuleFault}
use Rattle.apex_base.specs.declared.numbers.Scale.{Scale}
use Rattle.apex_base.specs.declared.numbers.SessionId.{SessionId}
use Rattle.apex_base.specs.declared.records.Cause.{Cause}
use Rattle.apex_base.specs.declared.records.Cause.TheVariants as causes
use Rattle.apex_base.specs.declared.records.Kind.{Kind}
use Rattle.apex_base.specs.declared.records.Kind.TheVariants.{Plain, WithRollback, RollbackOf}
use Rattle.apex_base.specs.declared.records.Part.{Part}
use Rattle.apex_base.specs.declared.records.Record.{Record}
use Rattle.apex_base.specs.declared.records.Target.{Target}
use Rattle.apex_base.specs.declared.records.Target.TheVariants as targets
use Rattle.apex_base.specs.Commit.{rollback_id, rolls_back, target_version, part_before, undoes, is_caller_id}
use Rattle.apex_base.specs.Held.{is_unfinished, is_undoable, is_available, is_standing, is_success, kept, example, examples}
use Rattle.apex_base.specs.Members.{each_pair}
use Rattle.apex_base.specs.Modules.{FileMap}
use Rattle.apex_base.specs.Numbers.{scale_modules, scale_file_weight, scale_data_weight, scale_units, version_of, millis_of}
use Rattle.apex_base.specs.Rollbacks.{is_enabling, is_committed}
use Rattle.apex_base.specs.Sessions.{has_id, shares, session_of}
use Rattle.apex_base.specs.Tables.{NameMap, Table}
use Rattle.apex_base.specs.Text.{is_name, is_print, is_path}
use Rattle.apex_manifest.specs.declared.manifest.Manifest.{Manifest}
use Rattle.apex_world.specs.declared.calls.Image.{Image}
use Rattle.apex_world.specs.declared.modules.Package.{Package}
use Rattle.apex_world.specs.declared.world.Submission.{Submission}
use Rattle.apex_world.specs.Bounds.{name_count, can_be_undone, can_be_rolled_back, is_ready_rollback, table_len}
use Rattle.apex_world.specs.Data.{part_weight}
use Rattle.apex_world.specs.Lawful.{ids_of, never_activated, has_cause, is_verified, part_at_place}
use Rattle.apex_world.specs.Limits.{units, weight}
use Rattle.apex_world.specs.Selection.{submitted_by}
use Rattle.apex_world.specs.Soundness.{checked, manifest_in}
use Rattle.apex_world.specs.World.{World, Contents, boots}
use Rattle.apex_base.specs.declared.records.State.TheVariants.{Activated}

-- what follows from something
abbrev pub implies : Bool → Bool → Bool
implies a b = not a || b

abbrev pub is_zero : ℕ → Bool
is_zero n = n == 0

abbrev pub is_same_id : SessionId → SessionId → Bool
is_same_id a b = a.0 == b.0

abbrev pub is_same_version : Option ℕ → Option ℕ → Bool
is_same_version None None = true
is_same_version None (Some b) = false
is_same_version (Some a) None = false
is_same_version (Some a) (Some b) = a == b

abbrev pub is_same_target : Target → Target → Bool
is_same_target targets.Preinstalled targets.Preinstalled = true
is_same_target targets.Preinstalled (targets.Module session part version) = false
is_same_target (targets.Module session part version) targets.Preinstalled = false
is_same_target (targets.Module session part version) (targets.Module s p v) = is_same_id session s && ((part == p) && (version == v))

abbrev pub is_same_part : Part → Part → Bool
is_same_part p q = bytes_eq p.name q.name && (is_same_version p.version q.version && is_same_target p.target q.target)

-- 0. Ranges

abbrev pub fits_width : SessionId → Bool
fits_width id = nat_lt id.0 4294967296

abbrev pub is_kind : Kind → Bool
is_kind Plain = true
is_kind WithRollback = true
is_kind (RollbackOf x) = fits_width x

abbrev pub is_cause : Option Cause → Bool
is_cause None = true
is_cause (Some causes.Reverted) = true
is_cause (Some causes.OtherBuild) = true
is_cause (Some (causes.Superseded id)) = fits_width id
is_cause (Some (causes.Part name case)) = is_name name

abbrev pub is_version : ℕ → Bool
is_version n = is_some (version_of n)

abbrev pub is_millis : ℕ → Bool
is_millis n = is_some (millis_of n)

abbrev pub is_some_version : Option ℕ → Bool
is_some_version None = true
is_some_version (Some n) = is_version n

abbrev pub is_good_target : Target → Bool
is_good_target targets.Preinstalled = true
is_good_target (targets.Module session part version) = fits_width session && (nat_lt part 256 && is_version version)

abbrev pub is_good_part : Part → Bool
is_good_part p = is_name p.name && (is_some_version p.version && is_good_target p.target)

-- no children, or one a part
abbrev pub has_as_many : Record → Bool
has_as_many r = is_zero (length r.children) || (length r.children == length r.parts)

abbrev pub is_record : Record → Bool
is_record r =
    fits_width r.id && (is_kind r.kind && (is_millis r.moment && (nat_lt r.activation 4294967296 && (is_print r.print && (is_cause r.cause
    && (list_all is_good_part r.parts && (nat_lt (length r.parts) 256 && (list_all fits_width r.children && has_as_many r))))))))

abbrev pub is_file : List ℕ × List ℕ → Bool
is_file f = is_path f.0 && nat_le (length f.1) 1048576

abbrev pub is_module : FileMap → Bool
is_module m = nat_le (fin.len m) 64 && list_all is_file (fin.entries m)

-- what stands in a table, stands under names; none stands for nothing
abbrev pub is_row : {X : Type 0} → List ℕ × NameMap X → Bool
is_row row = is_name row.0 && (not (is_zero (fin.len row.1)) && list_all is_name (fin.keys row.1))

abbrev pub is_table : {X : Type 0} → Table X → Bool
is_table t = list_all is_row (fin.entries t)

-- a watch's end is at most a moment and a duration
abbrev pub is_end : ℕ → Bool
is_end end = nat_le end 18014398509481982

abbrev pub are_ends : Table ℕ → Bool
are_ends t = list_all (λ row. list_all is_end (fin.values row.1)) (fin.entries t)

abbrev pub says : Result Manifest ModuleFault → List ℕ → ℕ → Bool
says (Ok manifest) name version = bytes_eq manifest.name name && (manifest.version == version)
says (Err fault) name version = false

abbrev pub is_package : Package → Bool
is_package m = says (manifest_in m.content) m.name m.version

abbrev pub is_image : Scale → Option Image → Bool
is_image scale None = true
is_image scale (Some image) =
    is_print image.print && (nat_le (length image.modules) (scale_modules scale) && (each_pair (λ m n. not (bytes_eq m.name n.name)) image.modules && list_all is_package image.modules))

abbrev pub are_in_range : World → Bool
are_in_range w =
    list_all is_record w.sessions && (list_all (λ s. is_module s.content) w.modules && (is_table w.contents && (list_all is_table w.eras && (list_all is_millis w.moments
    && (is_table w.watches && (are_ends w.watches && (nat_lt (boots w) 4294967296 && (is_millis w.clock && (is_image w.scale w.image && nat_le (length w.observers) 8)))))))))

-- 1. Ids

abbrev pub has_own_ids : Record → Bool
has_own_ids r = each_pair (λ a b. not (is_same_id a b)) (ids_of r)

-- two sessions have no id in common, and the first has the lesser
abbrev pub are_apart : Record → Record → Bool
are_apart r s = nat_lt r.id.0 s.id.0 && not (list_any (λ id. has_id id s) (ids_of r))

abbrev pub has_caller_ids : Record → Bool
has_caller_ids r = undoes r.kind || list_all is_caller_id (ids_of r)

abbrev pub have_ids : List Record → Bool
have_ids sessions = each_pair are_apart sessions && (list_all has_own_ids sessions && list_all has_caller_ids sessions)

-- 2. Parts

abbrev pub is_own : SessionId → ℕ → Target → Bool
is_own id k targets.Preinstalled = false
is_own id k (targets.Module session part version) = is_same_id session id && (part == k)

abbrev pub are_own : SessionId → ℕ → List Part → Bool
are_own id k [] = true
are_own id k (p ∷ ps) = is_own id k p.target && are_own id (k + 1) ps

abbrev pub has_count : Record → Bool
has_count r = (is_zero (length r.children) && (length r.parts == 1)) || (length r.children == length r.parts)

abbrev pub has_parts : Record → Bool
has_parts r =
    has_count r && (nat_le (length r.parts) 16 && (each_pair (λ p q. not (bytes_eq p.name q.name)) r.parts && ((undoes r.kind || are_own r.id 0 r.parts)
    && list_all (λ p. is_same_version p.version (target_version p.target)) r.parts)))

-- Sessions that share a name pass a test, either way

abbrev pub all_peers : (Record → Record → Bool) → List Record → Bool
all_peers test sessions = each_pair (λ r s. implies (shares r s) (test r s && test s r)) sessions

-- 3.
abbrev pub not_both_unfinished : Record → Record → Bool
not_both_unfinished r s = not (is_unfinished r.state && is_unfinished s.state)

-- 4. Activation boots

abbrev pub has_activation : ℕ → Record → Bool
has_activation boots r = (if never_activated r.state then is_zero r.activation else not (is_zero r.activation)) && nat_le r.activation boots

abbrev pub are_activated_apart : Record → Record → Bool
are_activated_apart r s =
    (is_zero r.activation || (is_zero s.activation || not (r.activation == s.activation))) && implies (is_undoable r.state && is_standing s.state) (nat_lt s.activation r.activation)

abbrev pub is_before_boot : ℕ → Option Record → Bool
is_before_boot b None = true
is_before_boot b (Some r) = nat_lt r.activation b

abbrev pub is_after_undone : List Record → ℕ → Kind → Bool
is_after_undone sessions b Plain = true
is_after_undone sessions b WithRollback = true
is_after_undone sessions b (RollbackOf x) = is_zero b || is_before_boot b (session_of sessions x)

abbrev pub have_activations : ℕ → List Record → Bool
have_activations boots sessions =
    list_all (has_activation boots) sessions && (all_peers are_activated_apart sessions && list_all (λ r. is_after_undone sessions r.activation r.kind) sessions)

-- 5.
abbrev pub has_its_cause : Record → Bool
has_its_cause r = if has_cause r.state then is_some r.cause else is_none r.cause

-- 6. Rollbacks

abbrev pub has_rollback : Record → Bool
has_rollback r =
    (if rolls_back r.kind then is_some r.rollback else is_none r.rollback)
    && (implies (is_enabling r.rollback) (is_unfinished r.state && is_zero r.moment) && (implies (is_available r.rollback || is_committed r.rollback) (is_success r.state)
    && implies (is_none r.rollback) (is_zero r.moment)))

abbrev pub not_both_available : Record → Record → Bool
not_both_available r s = not (is_available r.rollback && is_available s.rollback)

abbrev pub have_rollbacks : List Record → Bool
have_rollbacks sessions = list_all has_rollback sessions && all_peers not_both_available sessions

-- 7. Rollback sessions

abbrev pub is_rollback_session : List Record → Record → Option Record → Bool
is_rollback_session sessions r None = false
is_rollback_session sessions r (Some x) =
    is_committed x.rollback && (not (is_verified r.state) && (is_same_id r.id (rollback_id x.id) && (pointwise is_same_id r.children (map rollback_id x.children)
    && pointwise is_same_part r.parts (map (part_before sessions x) x.parts))))

abbrev pub has_undone : List Record → Record → Kind → Bool
has_undone sessions r Plain = true
has_undone sessions r WithRollback = true
has_undone sessions r (RollbackOf x) = is_rollback_session sessions r (session_of sessions x)

abbrev pub is_kind_of : SessionId → Kind → Bool
is_kind_of x Plain = false
is_kind_of x WithRollback = false
is_kind_of x (RollbackOf y) = is_same_id x y

abbrev pub undoes_it : SessionId → Option Record → Bool
undoes_it x None = false
undoes_it x (Some r) = is_kind_of x r.kind

abbrev pub have_rollback_sessions : List Record → Bool
have_rollback_sessions sessions =
    list_all (λ r. has_undone sessions r r.kind) sessions && list_all (λ x. implies (is_committed x.rollback) (undoes_it x.id (session_of sessions (rollback_id x.id)))) sessions

-- 8. Modules

abbrev pub is_said : Option Part → Option FileMap → SessionId → ℕ → ℕ → Bool
is_said None content session part version = false
is_said (Some p) None session part version = false
is_said (Some p) (Some content) session part version =
    says (checked content) p.name version && (is_same_version p.version (Some version) && is_same_target p.target (targets.Module session part version))

abbrev pub is_kept : World → Target → Bool
is_kept w targets.Preinstalled = true
is_kept w (targets.Module session part version) = is_said (part_at_place w.sessions session part) (submitted_by w.modules session part) session part version

abbrev pub is_other_part : Submission → Submission → Bool
is_other_part s t = not (is_same_id s.session t.session && (s.part == t.part))

abbrev pub have_modules : World → Bool
have_modules w =
    list_all (is_kept w) (kept w.sessions) && (each_pair is_other_part w.modules && list_all (λ s. is_some (part_at_place w.sessions s.session s.part)) w.modules)

-- 9. Bounds

abbrev pub has_little_data : Scale → Contents → Bool
has_little_data scale contents =
    nat_le (fin.len contents) (scale_modules scale) && list_all (λ m. nat_le (part_weight m) (scale_data_weight scale)) (fin.values contents)

abbrev pub is_within_scale : World → Bool
is_within_scale w =
    nat_le (units w) (scale_units w.scale) && (nat_le (weight w) (scale_file_weight w.scale) && (has_little_data w.scale w.contents && (list_all (has_little_data w.scale) w.eras
    && (nat_le (name_count can_be_undone w.sessions) (scale_modules w.scale) && (nat_le (name_count can_be_rolled_back w.sessions) (scale_modules w.scale)
    && (nat_le (name_count is_ready_rollback w.sessions) (scale_modules w.scale) && nat_le (table_len w.watches) (8 * scale_modules w.scale)))))))

abbrev pub has_begun : World → Bool
has_begun w = not (is_zero (boots w)) || is_zero (length w.moments)

abbrev pub is_lawful : World → Bool
is_lawful w =
    are_in_range w && (have_ids w.sessions && (list_all has_parts w.sessions && (all_peers not_both_unfinished w.sessions && (have_activations (boots w) w.sessions
    && (list_all has_its_cause w.sessions && (have_rollbacks w.sessions && (have_rollback_sessions w.sessions && (have_modules w && (is_within_scale w && has_begun w)))))))))

-- Worked values: sessions that boots 2 and 3 activated aren't lawful before any boot, and two sessions of one name can't
-- both be undone

pub no_boot_before : have_activations 0 examples ≡ false
no_boot_before = refl

pub three_boots_before : have_activations 3 examples ≡ true
three_boots_before = refl

pub two_to_undo : all_peers not_both_unfinished (example 1 Activated 2 ∷ example 2 Activated 3 ∷ []) ≡ false
two_to_undo = refl
