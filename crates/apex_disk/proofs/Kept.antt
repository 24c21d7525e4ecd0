-- What the contents of a disk in memory tell: its images, its past, and that a write or a sync keeps them right.
use Rattle.std.proofs.Common.{◌≡◌, ◌⊎◌, inl, inr, ⊎_elim, ℕ, zero, suc, ◌+◌, ◌≤◌, List, [], ◌∷◌, ◌++◌, length, drop, map, Some, refl, sym, ◌∙◌, ap, subst, arith, length-append}
use Rattle.std.proofs.lemmas.List.{map-append}
use Rattle.apex_disk.specs.Disk.{written, Torn, TornReads, Follows, IsSettled, Elapses}
use Rattle.apex_disk.specs.Content.{Agrees, IsSound, MayLeave}
use Rattle.apex_disk.specs.Memory.{Mem, Since, MightHaveLeft}
use Rattle.apex_disk.specs.declared.content.Content.{Content}
use Rattle.apex_disk.specs.declared.content.Range.{Range}
use Rattle.std.specs.declared.snapshot.Snapshot.{Snapshot}
use Rattle.apex_disk.proofs.Written.{torn_self}
use Rattle.apex_disk.proofs.Ranges.{torn_back, all_brought}

keeps : (past : List Content) (v : Content) (c : List ℕ) → MightHaveLeft past c → MightHaveLeft (past ++ v ∷ []) c
keeps [] v c had = absurd had
keeps (p ∷ past) v c (inl here) = inl here
keeps (p ∷ past) v c (inr there) = inr (keeps past v c there)

adds : (past : List Content) (v : Content) (c : List ℕ) → MightHaveLeft (past ++ v ∷ []) c → MightHaveLeft past c
    ⊎ MayLeave v c
adds [] v c (inl here) = inr here
adds [] v c (inr none) = absurd none
adds (p ∷ past) v c (inl here) = inl (inl here)
adds (p ∷ past) v c (inr there) = ⊎_elim (λ had. inl (inr had)) (λ new. inr new) (adds past v c there)

newest : (past : List Content) (v : Content) (c : List ℕ) → MayLeave v c → MightHaveLeft (past ++ v ∷ []) c
newest [] v c is = inl is
newest (p ∷ past) v c is = inr (newest past v c is)

drop_push : (t : ℕ) (past : List Content) (v : Content) → t ≤ length past
    → drop t (past ++ v ∷ []) ≡ drop t past ++ v ∷ []
drop_push zero past v le = refl
drop_push (suc t) [] v le = absurd (omega arith)
drop_push (suc t) (p ∷ past) v le = drop_push t past v (omega arith)

abbrev pub told : List (Snapshot Content) → List Content
told past = map (λ (p : Snapshot Content). p.value) past

abbrev Left : Content → List Content → ℕ → List ℕ → Type 0
Left now past t c = MayLeave now c ⊎ MightHaveLeft (drop t past) c

-- the content that was joins the past
elapses : (past later : List Content) (old new : Content) → later ≡ past ++ old ∷ []
    → Elapses (length past) (length later) (Left old past) (Left new later) (MayLeave new)
elapses past later old new is = record {
  later = omega (arith, ap length is, length-append past (old ∷ []));
  nothing_else =
      λ t c le left. ⊎_elim (λ now. inr now) (λ had. inl (was t c (adds (drop t past) old c (along t c le had)))) left;
  keeps = λ t c le left. inr (back t c le (⊎_elim (newest (drop t past) old c) (keeps (drop t past) old c) left));
}
  where
    is_one_more : (t : ℕ) → t ≤ length past → drop t later ≡ drop t past ++ old ∷ []
    is_one_more t le = ap (λ (l : List Content). drop t l) is ∙ drop_push t past old le

    along : (t : ℕ) (c : List ℕ) → t ≤ length past → MightHaveLeft (drop t later) c
        → MightHaveLeft (drop t past ++ old ∷ []) c
    along t c le = subst (λ (l : List Content). MightHaveLeft l c) (is_one_more t le)

    back : (t : ℕ) (c : List ℕ) → t ≤ length past → MightHaveLeft (drop t past ++ old ∷ []) c
        → MightHaveLeft (drop t later) c
    back t c le = subst (λ (l : List Content). MightHaveLeft l c) (sym (is_one_more t le))

    was : (t : ℕ) (c : List ℕ) → MightHaveLeft (drop t past) c ⊎ MayLeave old c → Left old past t c
    was t c (inl had) = inr had
    was t c (inr now) = inl now

-- a snapshot of it does
joined : (past later : List (Snapshot Content)) (s : Snapshot Content) (old : Content) → later ≡ past ++ s ∷ []
    → s.value ≡ old → told later ≡ told past ++ old ∷ []
joined past later s old is value =
    ap told is ∙ map-append (λ (p : Snapshot Content). p.value) past (s ∷ [])
    ∙ ap (λ (v : Content). told past ++ v ∷ []) value

-- a write that does nothing
no_write : (content : Content) (at n : ℕ) → IsSound content → at + n ≤ length content.bytes.items
    → Follows (Torn at n) (MayLeave content) (MayLeave content)
no_write content at n sound fits c left = (c, left, torn_self at n c (omega (arith, left.0)))

after_write : (old new : Content) (at : ℕ) (b : List ℕ) → IsSound old → at + length b ≤ length old.bytes.items
    → new.bytes.items ≡ written at b old.bytes.items → new.synced.items ≡ old.synced.items
    → new.pending.items ≡ old.pending.items ++ record { at = at; len = length b } ∷ []
    → Follows (Torn at (length b)) (MayLeave old) (MayLeave new)
after_write old new at b sound fits bytes synced pending c (long, inl is) =
    (old.bytes.items, (refl, inl refl), record { bytes = b; size = refl; is = is ∙ bytes })
after_write old new at b sound fits bytes synced pending c (long, inr agrees) =
    let r : Range = record { at = at; len = length b } in
    let here = subst (λ (l : List ℕ). Agrees l (old.pending.items ++ r ∷ []) c) synced
    (subst (λ (l : List Range). Agrees new.synced.items l c) pending agrees) in
    let d = torn_back old.pending.items r old.synced.items c here (omega (arith, sound.agrees.long)) in
    (d.0, (d.1.long ∙ sym sound.agrees.long, inr d.1), d.2)

-- what reads give is torn where nothing was written
pub not_torn : (content : Content) (at n : ℕ) → at + n ≤ length content.bytes.items
    → TornReads at n (Some content.bytes.items) (Some content.bytes.items)
not_torn content at n fits = (content.bytes.items, refl, torn_self at n content.bytes.items fits)

-- nothing is pending
pub settled : (content : Content) → content.pending.items ≡ [] → content.synced.items ≡ content.bytes.items
    → IsSettled (MayLeave content) (Some content.bytes.items)
settled content none same c (long, inl is) = ap (λ (l : List ℕ). Some l) (sym is)
settled content none same c (long, inr agrees) = ap (λ (l : List ℕ). Some l) (sym same
    ∙ all_brought c content.synced.items (subst (λ (l : List Range). Agrees content.synced.items l c) none agrees))

-- The disk in memory, from its fields to what contracts see.
module _ (fields disk : Mem) (is : fields ≡ disk) where
  fits_inside : (at n : ℕ) → at + n ≤ length disk.content.bytes.items → at + n ≤ length fields.content.bytes.items
  fits_inside at n fits = rw (ap (λ (m : Mem). length m.content.bytes.items) is) fits

  pub reads_unwritten : (at n : ℕ) → at + n ≤ length disk.content.bytes.items
      → TornReads at n (Some disk.content.bytes.items) (Some fields.content.bytes.items)
  reads_unwritten at n fits =
      subst (λ (m : Mem). TornReads at n (Some m.content.bytes.items) (Some fields.content.bytes.items)) is
      (not_torn fields.content at n (fits_inside at n fits))

  pub images_unwritten : (at n : ℕ) → IsSound fields.content → at + n ≤ length disk.content.bytes.items
      → Follows (Torn at n) (MayLeave disk.content) (MayLeave fields.content)
  images_unwritten at n sound fits =
      subst (λ (m : Mem). Follows (Torn at n) (MayLeave m.content) (MayLeave fields.content)) is
      (no_write fields.content at n sound (fits_inside at n fits))

  pub images_written : (new : Content) (at : ℕ) (b : List ℕ) → IsSound fields.content
      → at + length b ≤ length disk.content.bytes.items → new.bytes.items ≡ written at b fields.content.bytes.items
      → new.synced.items ≡ fields.content.synced.items
      → new.pending.items ≡ fields.content.pending.items ++ record { at = at; len = length b } ∷ []
      → Follows (Torn at (length b)) (MayLeave disk.content) (MayLeave new)
  images_written new at b sound fits bytes synced pending =
      subst (λ (m : Mem). Follows (Torn at (length b)) (MayLeave m.content) (MayLeave new)) is
      (after_write fields.content new at b sound (fits_inside at (length b) fits) bytes synced pending)

  -- one step more
  pub time_passed : (past later : List (Snapshot Content)) (s : Snapshot Content) (new : Content)
      → fields.past ≡ told past → later ≡ past ++ s ∷ [] → s.value ≡ fields.content
      → Elapses (length disk.past) (length (told later)) (Since disk) (Left new (told later)) (MayLeave new)
  time_passed past later s new has more value =
      subst (λ (m : Mem). Elapses (length m.past) (length (told later)) (Since m) (Left new (told later))
      (MayLeave new)) is
      (elapses fields.past (told later) fields.content new
      (joined past later s fields.content more value ∙ ap (λ (l : List Content). l ++ fields.content ∷ []) (sym has)))
