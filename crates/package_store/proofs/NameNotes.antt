-- What is noted of a key is what the sessions call for. Callers want `all_noted`.
use Rattle.std.proofs.Common.{◌≡◌, ℕ, Bool, true, false, cond, ◌&&◌, ◌||◌, List, [], ◌∷◌, fold, Option, Some, None}
use Rattle.std.proofs.Common.{ap, subst, sym, ◌∙◌, refl, inl, inr}
use Rattle.std.specs.Prelude.{find, ◌==◌}
use Rattle.std.specs.List.{list_any}
use Rattle.std.specs.Option.{option_map}
use Rattle.std.specs.Str.{bytes_eq}
use Rattle.std.proofs.lemmas.Bool.{eqb-true}
use Rattle.std.proofs.lemmas.Slice.Eq.{bytes_eq-Decides}
use Rattle.apex_base.specs.declared.records.Part.{Part}
use Rattle.apex_base.specs.declared.records.Record.{Record}
use Rattle.apex_base.specs.declared.records.Target.{Target}
use Rattle.apex_base.specs.Held.{is_undoable, held, before, kept, target_of}
use Rattle.apex_base.specs.Members.{In}
use Rattle.apex_base.specs.Settled.{stands_for, is_undoable_for}
use Rattle.apex_base.specs.Spelling.{target_text}
use Rattle.package_store.specs.Latest.{Best, best_of}
use Rattle.package_store.specs.Named.{Note, or_first, note_active, note_held, note_backup, if_undoable}
use Rattle.package_store.specs.Named.{note_all}
use Rattle.package_store.specs.Settled.{settled, file_stays}
use Rattle.package_store.specs.Spelled.{change_to}
use Rattle.package_store.proofs.HeldNames.{Lists, names_held}
use Rattle.package_store.proofs.RowNotes.{bytes_turned}

both : {X : Type 0} (b : Bool) (x : X) → cond b x x ≡ x
both true x = refl
both false x = refl

any_of : {X : Type 0} (a b : Bool) (x n : X) → cond a x (cond b x n) ≡ cond (b || a) x n
any_of a true x n = both a x
any_of a false x n = refl

module _ (records : List Record) where
  module _ (name : List ℕ) where
    -- ---- the rows of what names hold

    abbrev active : Note
    active = Some (Some (target_text (held records name) []))

    active_if : (b : Bool) (e : List ℕ × Best) (n : Note) → bytes_eq name e.0 ≡ b
        → best_of records e.0 ≡ Some e.1
        → cond b (Some (Some (target_text e.1.1 []))) n ≡ cond b active n
    active_if true e n eq best =
        let holds : held records name ≡ e.1.1 =
        ap (λ (x : List ℕ). held records x) ((bytes_eq-Decides name e.0).0 eq) ∙ ap target_of best in
        ap (λ (t : Target). Some (Some (target_text t []))) (sym holds)
    active_if false e n eq best = refl

    active_entries : (es : List (List ℕ × Best))
        → ((e : List ℕ × Best) → In e es → best_of records e.0 ≡ Some e.1) → (n : Note)
        → fold (λ n (e : List ℕ × Best). note_active e.0 e.1.1 (3 ∷ name) n) n es
        ≡ cond (list_any (λ (e : List ℕ × Best). bytes_eq e.0 name) es) active n
    active_entries [] each n = refl
    active_entries (e ∷ es) each n =
        let rest = list_any (λ (e : List ℕ × Best). bytes_eq e.0 name) es in
        active_entries es (λ x there. each x (inr there)) (note_active e.0 e.1.1 (3 ∷ name) n)
        ∙ ap (λ (m : Note). cond rest active m)
        (active_if (bytes_eq name e.0) e n refl (each e (inl refl))
        ∙ ap (λ (b : Bool). cond b active n) (bytes_turned name e.0))
        ∙ any_of rest (bytes_eq e.0 name) active n

    active_to : (b : Bool) → cond b active None
        ≡ change_to None (cond b (Some (target_text (held records name) [])) None)
    active_to true = refl
    active_to false = refl

    -- ---- the rows of what they held before

    abbrev backup : Record → Option (List ℕ)
    backup r = Some (target_text (before records r name) [])

    backup_if : (b : Bool) (r : Record) (other : List ℕ) (n : Note) → bytes_eq name other ≡ b
        → cond b (or_first n (Some (Some (target_text (before records r other) [])))) n
        ≡ cond b (or_first n (Some (backup r))) n
    backup_if true r other n e = ap (λ (x : List ℕ). or_first n (Some (Some (target_text (before records r x) []))))
        (sym ((bytes_eq-Decides name other).0 e))
    backup_if false r other n e = refl

    first_again : (n : Note) (x : Option (List ℕ)) (y : Note) → or_first (or_first n (Some x)) y ≡ or_first n (Some x)
    first_again None x y = refl
    first_again (Some z) x y = refl

    backup_join : (b a : Bool) (n : Note) (x : Option (List ℕ))
        → cond a (or_first (cond b (or_first n (Some x)) n) (Some x)) (cond b (or_first n (Some x)) n)
        ≡ cond (b || a) (or_first n (Some x)) n
    backup_join true true n x = first_again n x (Some x)
    backup_join true false n x = refl
    backup_join false a n x = refl

    backup_parts : (r : Record) (ps : List Part) (n : Note)
        → fold (λ n (p : Part). note_backup records r p.name (4 ∷ name) n) n ps
        ≡ cond (list_any (λ (p : Part). bytes_eq p.name name) ps) (or_first n (Some (backup r))) n
    backup_parts r [] n = refl
    backup_parts r (p ∷ ps) n =
        let rest = list_any (λ (p : Part). bytes_eq p.name name) ps in
        backup_parts r ps (note_backup records r p.name (4 ∷ name) n)
        ∙ ap (λ (m : Note). cond rest (or_first m (Some (backup r))) m)
        (backup_if (bytes_eq name p.name) r p.name n refl
        ∙ ap (λ (b : Bool). cond b (or_first n (Some (backup r))) n) (bytes_turned name p.name))
        ∙ backup_join (bytes_eq p.name name) rest n (backup r)

    if_both : (u b : Bool) (x n : Note) → cond u (cond b x n) n ≡ cond (u && b) x n
    if_both true b x n = refl
    if_both false b x n = refl

    last_first : (n : Note) → n ≡ or_first n None
    last_first None = refl
    last_first (Some x) = refl

    find_join : (b : Bool) (r : Record) (rest : Option Record) (n : Note)
        → or_first (cond b (or_first n (Some (backup r))) n) (option_map backup rest)
        ≡ or_first n (option_map backup (cond b (Some r) rest))
    find_join true r rest n = first_again n (backup r) (option_map backup rest)
    find_join false r rest n = refl

    backup_all : (rs : List Record) (n : Note) → fold (if_undoable records (4 ∷ name)) n rs
        ≡ or_first n (option_map backup (find (is_undoable_for name) rs))
    backup_all [] n = last_first n
    backup_all (r ∷ rs) n =
        let rest = find (is_undoable_for name) rs in
        backup_all rs (if_undoable records (4 ∷ name) n r)
        ∙ ap (λ (m : Note). or_first m (option_map backup rest))
        (ap (λ (m : Note). cond (is_undoable r.state) m n) (backup_parts r r.parts n)
        ∙ if_both (is_undoable r.state) (list_any (λ (p : Part). bytes_eq p.name name) r.parts)
        (or_first n (Some (backup r))) n)
        ∙ find_join (is_undoable_for name r) r rest n

    backup_to : (o : Option Record) → or_first None (option_map backup o)
        ≡ change_to None (option_map (λ r. target_text (before records r name) []) o)
    backup_to None = refl
    backup_to (Some r) = refl

  -- ---- all other keys

  no_active : (key : List ℕ) → ((name : List ℕ) → bytes_eq key (3 ∷ name) ≡ false) → (es : List (List ℕ × Best))
      (n : Note) → fold (λ n (e : List ℕ × Best). note_active e.0 e.1.1 key n) n es ≡ n
  no_active key none [] n = refl
  no_active key none (e ∷ es) n =
      no_active key none es (note_active e.0 e.1.1 key n)
      ∙ ap (λ (b : Bool). cond b (Some (Some (target_text e.1.1 []))) n) (none e.0)

  module _ (key : List ℕ) (none : (name : List ℕ) → bytes_eq key (4 ∷ name) ≡ false) where
    no_backups : (r : Record) (ps : List Part) (n : Note)
        → fold (λ n (p : Part). note_backup records r p.name key n) n ps ≡ n
    no_backups r [] n = refl
    no_backups r (p ∷ ps) n =
        no_backups r ps (note_backup records r p.name key n)
        ∙ ap (λ (b : Bool). cond b (or_first n (Some (Some (target_text (before records r p.name) [])))) n)
        (none p.name)

    no_backup : (rs : List Record) (n : Note) → fold (if_undoable records key) n rs ≡ n
    no_backup [] n = refl
    no_backup (r ∷ rs) n =
        no_backup rs (if_undoable records key n r)
        ∙ ap (λ (m : Note). cond (is_undoable r.state) m n) (no_backups r r.parts n)
        ∙ both (is_undoable r.state) n

  module _ (es : List (List ℕ × Best)) (lists : Lists records es) where
    active_noted : (name : List ℕ)
        → note_all records es (3 ∷ name) ≡ change_to None (settled records (3 ∷ name) None)
    active_noted name =
        no_backup (3 ∷ name) (λ other. refl) records (note_held es (3 ∷ name))
        ∙ active_entries name es lists.each None
        ∙ ap (λ (b : Bool). cond b (active name) None) (names_held records es lists name)
        ∙ active_to name (list_any (stands_for name) records)

    backup_noted : (name : List ℕ)
        → note_all records es (4 ∷ name) ≡ change_to None (settled records (4 ∷ name) None)
    backup_noted name =
        ap (λ (n : Note). fold (if_undoable records (4 ∷ name)) n records)
        (no_active (4 ∷ name) (λ other. refl) es None)
        ∙ backup_all name records None ∙ backup_to name (find (is_undoable_for name) records)

    no_note : (key : List ℕ) → ((name : List ℕ) → bytes_eq key (3 ∷ name) ≡ false)
        → ((name : List ℕ) → bytes_eq key (4 ∷ name) ≡ false) → note_all records es key ≡ None
    no_note key active backup = no_backup key backup records (note_held es key) ∙ no_active key active es None

    by_tag : (a b : Bool) (tag : ℕ) (rest : List ℕ) → (tag == 3) ≡ a → (tag == 4) ≡ b
        → note_all records es (tag ∷ rest) ≡ change_to None (settled records (tag ∷ rest) None)
    by_tag true b tag rest e f =
        let is : tag ≡ 3 = eqb-true tag 3 e in
        subst (λ (t : ℕ). note_all records es (t ∷ rest) ≡ change_to None (settled records (t ∷ rest) None)) (sym is)
        (active_noted rest)
    by_tag false true tag rest e f =
        let is : tag ≡ 4 = eqb-true tag 4 f in
        subst (λ (t : ℕ). note_all records es (t ∷ rest) ≡ change_to None (settled records (t ∷ rest) None)) (sym is)
        (backup_noted rest)
    by_tag false false tag rest e f =
        let none : settled records (tag ∷ rest) None ≡ None =
        rw (e, f) (ap (λ (o : Option (List ℕ)). cond (tag == 5) o None) (both (file_stays (kept records) rest) None)
        ∙ both (tag == 5) None) in
        no_note (tag ∷ rest) (λ name. rw e refl) (λ name. rw f refl)
        ∙ ap (λ (o : Option (List ℕ)). change_to None o) (sym none)

    -- what is noted is what the sessions call for
    pub all_noted : (key : List ℕ) → note_all records es key ≡ change_to None (settled records key None)
    all_noted [] = no_note [] (λ name. refl) (λ name. refl)
    all_noted (tag ∷ rest) = by_tag (tag == 3) (tag == 4) tag rest refl refl
