-- What the name of a session held before it, as its row says. Callers want `backups_are`.
use Rattle.std.proofs.Common.{◌≡◌, ℕ, Bool, true, false, ◌&&◌, eqb, eqb-true, List, [], ◌∷◌, find, Some, sym, ap}
use Rattle.std.proofs.Common.{◌∙◌, refl, inl}
use Rattle.std.specs.FinMap as fin
use Rattle.std.specs.Option.{option_map}
use Rattle.std.proofs.lemmas.Bool.{false≢true, and_parts, eq-eqb}
use Rattle.apex_base.specs.declared.records.Part.{Part}
use Rattle.apex_base.specs.declared.records.Record.{Record}
use Rattle.apex_base.specs.Held.{is_undoable, before}
use Rattle.apex_base.specs.Keys.{BackupOf, key_text}
use Rattle.apex_base.specs.Members.{In}
use Rattle.apex_base.specs.Sessions.{names}
use Rattle.apex_base.specs.Settled.{is_undoable_for}
use Rattle.apex_base.specs.Spelling.{target_text}
use Rattle.apex_base.proofs.Finding.{found, finds}
use Rattle.apex_base.proofs.MemberLemmas.{in_any}
use Rattle.apex_base.proofs.SpellingLemmas.{target_again}
use Rattle.apex_world.specs.Lawful.{Lawful}
use Rattle.apex_world.specs.Rows.{rows}
use Rattle.apex_world.specs.World.{World}
use Rattle.world_facts.proofs.facts.KeptLemmas.{names_own}
use Rattle.world_facts.proofs.facts.StateFacts.{undoable_unfinished}
use Rattle.world_facts.proofs.facts.OpenedSessions.{one_session}
use Rattle.world_facts.proofs.facts.WorldRows.{backup_at}
use Rattle.call_judge.specs.Ending.{spelled, read_target}
use Rattle.call_judge.specs.Taken.{first_of}
use Rattle.call_judge.proofs.GivenUp.{held_target_of}

module _ (w : World) (law : Lawful w) (r : Record) (h : In r w.sessions) (u : is_undoable r.state ≡ true) where
  same_if : (x : Record) (name : List ℕ) (b : Bool) → eqb x.id.0 r.id.0 ≡ b → In x w.sessions
      → is_undoable x.state ≡ true → names name x ≡ true → names name r ≡ true → x ≡ r
  same_if x name true e i v m n = one_session w.sessions x r law.ids.ascend i h (eqb-true _ _ e)
  same_if x name false e i v m n =
      absurd (law.alone x r name i h (λ f. false≢true (sym e ∙ eq-eqb x.id.0 r.id.0 f)) m n
      (undoable_unfinished x.state v) (undoable_unfinished r.state u))

  -- of those that have its name it alone can be undone
  alone : (name : List ℕ) → names name r ≡ true → find (is_undoable_for name) w.sessions ≡ Some r
  alone name n =
      let passes : is_undoable_for name r ≡ true = ap (λ (b : Bool). b && names name r) u ∙ n in
      let (x, e) = finds (is_undoable_for name) w.sessions (in_any (is_undoable_for name) r w.sessions h passes) in
      let (i, p) = found (is_undoable_for name) w.sessions x e in
      let (v, m) = and_parts (is_undoable x.state) (names name x) p in
      e ∙ ap (λ (y : Record). Some y) (same_if x name (eqb x.id.0 r.id.0) refl i v m n)

  backup_is : (p : Part) → In p r.parts
      → spelled (fin.get (rows w) (key_text (BackupOf p.name))) ≡ before w.sessions r p.name
  backup_is p i =
      ap spelled (backup_at w law p.name
      ∙ ap (option_map (λ (x : Record). target_text (before w.sessions x p.name) [])) (alone p.name (names_own r p i)))
      ∙ ap read_target (target_again (before w.sessions r p.name) [] (held_target_of w law r (p ∷ [])))

  -- the row of its name says what that held before it
  pub backups_are : (ps : List Part) → ((p : Part) → In p ps → In p r.parts)
      → first_of (λ p. spelled (fin.get (rows w) (key_text (BackupOf p.name)))) ps
      ≡ first_of (λ p. before w.sessions r p.name) ps
  backups_are [] all = refl
  backups_are (p ∷ ps) all = backup_is p (all p (inl refl))
