-- The row keys of two different things differ: a key is read again from its bytes. Callers want `same_key`.
use Rattle.std.proofs.Common.{◌≡◌, [], ◌∷◌, Some, sym, ap, ◌∙◌, refl}
use Rattle.apex_base.specs.Keys.{Key, Boots, RecordOf, ActiveOf, BackupOf, FileOf, DataOf, SnapshotOf, PreRestoreOf, WatchOf, key_text, IsKey, record_key_of, file_key_of, data_key_of, snapshot_key_of, pre_restore_key_of, watch_key_of, key_of}
use Rattle.apex_base.specs.Reading.{short_text}
use Rattle.apex_base.proofs.SpellingLemmas.{four_again, short_again}

pub key_again : (k : Key) → IsKey k → key_of (key_text k) ≡ Some k
unfolding key_of record_key_of file_key_of data_key_of snapshot_key_of pre_restore_key_of watch_key_of
key_again Boots h = refl
key_again (RecordOf id) h = rw (four_again id.0 [] h) refl
key_again (ActiveOf name) h = refl
key_again (BackupOf name) h = refl
key_again (FileOf id part path) h = rw (four_again id.0 (part ∷ path) h) refl
key_again (DataOf name key) h = rw (short_again name key) refl
key_again (SnapshotOf id name key) h = rw (four_again id.0 (short_text name key) h, short_again name key) refl
key_again (PreRestoreOf id name key) h = rw (four_again id.0 (short_text name key) h, short_again name key) refl
key_again (WatchOf observer name) h = rw (short_again observer name) refl

some_is : {A : Type 0} (x y : A) → Some x ≡ Some y → x ≡ y
some_is x y e = cc

pub same_key : (a b : Key) → IsKey a → IsKey b → key_text a ≡ key_text b → a ≡ b
same_key a b h g e = some_is a b (sym (key_again a h) ∙ ap key_of e ∙ key_again b g)
