-- Worlds that are alike, in parts; and the calls that leave all sessions as they are. Callers want `in_parts`,
-- `from_parts` and `quiet_alike`.
use Rattle.std.proofs.Common.{◌≡◌, true, ℕ, ◌+◌, List, Option, Some, None, ap, subst, ◌∙◌, refl}
use Rattle.std.specs.Prelude.{Result, Ok, Err, max, find}
use Rattle.apex_base.specs.declared.numbers.Scale.{Scale}
use Rattle.apex_base.specs.declared.numbers.SessionId.{SessionId}
use Rattle.apex_base.specs.declared.records.Pick.{Pick}
use Rattle.apex_base.specs.declared.records.Record.{Record}
use Rattle.apex_base.specs.declared.refusal.Refusal.{Refusal}
use Rattle.apex_base.specs.Results.{◌>>=◌}
use Rattle.apex_base.specs.Members.{In}
use Rattle.apex_base.specs.Sessions.{has_id, names}
use Rattle.apex_base.specs.Tables.{value_of, with_value, without_value}
use Rattle.apex_world.specs.declared.calls.Call.{Call}
use Rattle.apex_world.specs.declared.calls.Call.TheVariants as calls
use Rattle.apex_world.specs.declared.calls.Image.{Image}
use Rattle.apex_world.specs.declared.calls.Observer.{Observer}
use Rattle.apex_world.specs.declared.calls.Reply.TheVariants as reply
use Rattle.world_laws.specs.Alike.{Alike}
use Rattle.apex_world.specs.Data.{unknown_module, with_entry, data_full, put, drop, get, value_at}
use Rattle.apex_world.specs.Lawful.{Lawful}
use Rattle.apex_world.specs.Advance.{told, state_of}
use Rattle.world_laws.specs.Likeness.{leaves_sessions}
use Rattle.apex_world.specs.Step.{step}
use Rattle.apex_world.specs.Stepped.{Stepped, refused, replied, answered}
use Rattle.world_laws.specs.StoredAlike.{AreAlikeInParts, AreSteppedAlike, KeepsPast}
use Rattle.apex_world.specs.Submit.{pass}
use Rattle.apex_world.specs.Watching.{no_observer, first_unknown, with_watches, watch_length, watched, watch}
use Rattle.apex_world.specs.declared.world.Submission.{Submission}
use Rattle.apex_world.specs.World.{World, Contents, Watches, era}
use Rattle.world_laws.proofs.alike.OpenedModules.{HaveSameFiles}
use Rattle.world_laws.proofs.alike.StoredAlikeLemmas.{rows_agree, stored_alike}

-- Lawful worlds are alike where they are alike in parts

pub in_parts : (w v : World) → Lawful w → Lawful v → Alike w v → AreAlikeInParts w v
in_parts w v law law' a = record {
  stored = stored_alike w v law law' a.rows;
  scale = a.scale;
  image = a.image;
  observers = a.observers;
  active = a.active;
  clock = a.clock;
  failures = a.failures;
}

pub from_parts : (w v : World) → Lawful w → Lawful v → AreAlikeInParts w v → Alike w v
from_parts w v law law' a = record {
  scale = a.scale;
  rows = rows_agree w v a.stored law law';
  image = a.image;
  observers = a.observers;
  active = a.active;
  clock = a.clock;
  failures = a.failures;
}

-- Replies

pub refused_alike : (w v : World) (e : Refusal) → AreAlikeInParts w v → AreSteppedAlike (refused w e) (refused v e)
refused_alike w v e a = record { reply = refl; world = a }

-- a call that is judged, and whose world is then another
one_test : (w v after after' : World) (a : Option Refusal) → AreAlikeInParts w v → AreAlikeInParts after after'
    → AreSteppedAlike (replied w (pass a >>= λ known. Ok after)) (replied v (pass a >>= λ known. Ok after'))
one_test w v after after' None same then = record { reply = refl; world = then }
one_test w v after after' (Some e) same then = refused_alike w v e same

pub two_tests : (w v after after' : World) (a b : Option Refusal) → AreAlikeInParts w v → AreAlikeInParts after after'
    → AreSteppedAlike (replied w (pass a >>= λ known. pass b >>= λ light. Ok after))
    (replied v (pass a >>= λ known. pass b >>= λ light. Ok after'))
two_tests w v after after' None b same then = one_test w v after after' b same then
two_tests w v after after' (Some e) b same then = refused_alike w v e same

module _ (w v : World) (a : AreAlikeInParts w v) where
  -- the other world, with all of this one that is equal
  abbrev pub other : World
  other = record v {
    scale = w.scale;
    sessions = w.sessions;
    contents = w.contents;
    watches = w.watches;
    image = w.image;
    observers = w.observers;
    active = w.active;
    clock = w.clock;
  }

  abbrev of_parts : Scale → List Record → Contents → Watches → Option Image → List Observer → List Pick → ℕ → World
  of_parts scale sessions contents watches image observers active clock = record v {
    scale = scale;
    sessions = sessions;
    contents = contents;
    watches = watches;
    image = image;
    observers = observers;
    active = active;
    clock = clock;
  }

  pub other_is : other ≡ v
  other_is =
      ap (λ x. of_parts x w.sessions w.contents w.watches w.image w.observers w.active w.clock) a.scale
      ∙ ap (λ x. of_parts v.scale x w.contents w.watches w.image w.observers w.active w.clock) a.stored.sessions
      ∙ ap (λ x. of_parts v.scale v.sessions x w.watches w.image w.observers w.active w.clock) a.stored.contents
      ∙ ap (λ x. of_parts v.scale v.sessions v.contents x w.image w.observers w.active w.clock) a.stored.watches
      ∙ ap (λ x. of_parts v.scale v.sessions v.contents v.watches x w.observers w.active w.clock) a.image
      ∙ ap (λ x. of_parts v.scale v.sessions v.contents v.watches v.image x w.active w.clock) a.observers
      ∙ ap (λ x. of_parts v.scale v.sessions v.contents v.watches v.image v.observers x w.clock) a.active
      ∙ ap (λ x. of_parts v.scale v.sessions v.contents v.watches v.image v.observers v.active x) a.clock

  -- with other sessions, modules, data, watches and clock they are alike in parts, where their modules and earlier data
  -- are alike
  pub alike_with : (ss : List Record) (ms ms' : List Submission) (contents : Contents) (watches : Watches) (clock : ℕ)
      → HaveSameFiles ss ms ms'
      → ((r : Record) (name key : List ℕ) → In r ss → KeepsPast ss r → names name r ≡ true
      → value_of (era w.eras r.activation) name key ≡ value_of (era v.eras r.activation) name key)
      → AreAlikeInParts (record w {
        sessions = ss;
        modules = ms;
        contents = contents;
        watches = watches;
        clock = clock;
      }) (record other { sessions = ss; modules = ms'; contents = contents; watches = watches; clock = clock })
  alike_with ss ms ms' contents watches clock modules past = record {
    stored = record {
      sessions = refl;
      modules = modules;
      contents = refl;
      past = past;
      boots = a.stored.boots;
      moments = a.stored.moments;
      watches = refl;
    };
    scale = refl;
    image = refl;
    observers = refl;
    active = refl;
    clock = refl;
    failures = a.failures;
  }

  -- the same with other data, watches and clock on either side
  pub with_tables : (contents : Contents) (watches : Watches) (clock : ℕ)
      → AreAlikeInParts (record w { contents = contents; watches = watches; clock = clock })
      (record other { contents = contents; watches = watches; clock = clock })
  with_tables contents watches clock =
      alike_with w.sessions w.modules v.modules contents watches clock a.stored.modules a.stored.past

  pub unchanged : AreAlikeInParts w other
  unchanged = with_tables w.contents w.watches w.clock

  -- what holds beside the other world with equal parts holds beside the other world
  pub beside : (f : World → Stepped) → AreSteppedAlike (f w) (f other) → AreSteppedAlike (f w) (f v)
  beside f h = subst (λ (z : World). AreSteppedAlike (f w) (f z)) other_is h

  pub put_alike : (name key value : List ℕ) → AreSteppedAlike (put w name key value) (put v name key value)
  put_alike name key value =
      beside (λ z. put z name key value)
      (two_tests w other (with_entry w name key value) (with_entry other name key value) (unknown_module w.image name)
      (data_full (with_entry w name key value) name) unchanged
      (with_tables (with_value w.contents name key value) w.watches w.clock))

  drop_if : (r : Result (List ℕ) Refusal) (name key : List ℕ)
      → AreSteppedAlike (replied w (r >>= λ value. Ok (record w { contents = without_value w.contents name key })))
      (replied other (r >>= λ value. Ok (record other { contents = without_value w.contents name key })))
  drop_if (Ok value) name key =
      record { reply = refl; world = with_tables (without_value w.contents name key) w.watches w.clock }
  drop_if (Err e) name key = refused_alike w other e unchanged

  pub drop_alike : (name key : List ℕ) → AreSteppedAlike (drop w name key) (drop v name key)
  drop_alike name key = beside (λ z. drop z name key) (drop_if (value_at w name key) name key)

  get_if : (r : Result (List ℕ) Refusal)
      → AreSteppedAlike (answered w (r >>= λ value. Ok (record { world = w; reply = reply.Value value })))
      (answered other (r >>= λ value. Ok (record { world = other; reply = reply.Value value })))
  get_if (Ok value) = record { reply = refl; world = unchanged }
  get_if (Err e) = refused_alike w other e unchanged

  pub get_alike : (name key : List ℕ) → AreSteppedAlike (get w name key) (get v name key)
  get_alike name key = beside (λ z. get z name key) (get_if (value_at w name key))

  told_if : (id : SessionId) (o : Option Record) → AreSteppedAlike (told w id o) (told other id o)
  told_if id None = record { reply = refl; world = unchanged }
  told_if id (Some r) = record { reply = refl; world = unchanged }

  pub state_alike : (id : SessionId) → AreSteppedAlike (state_of w id) (state_of v id)
  state_alike id = beside (λ z. state_of z id) (told_if id (find (has_id id) w.sessions))

  pub watch_alike : (time : ℕ) (observer : List ℕ) (duration : ℕ) (names : List (List ℕ))
      → AreSteppedAlike (watch w time observer duration names) (watch v time observer duration names)
  watch_alike time observer duration names =
      let clock : ℕ = max w.clock time in
      beside (λ z. watch z time observer duration names)
      (two_tests w other (watched w clock observer duration names) (watched other clock observer duration names)
      (no_observer w.observers observer) (first_unknown w.image names) unchanged
      (with_tables w.contents (with_watches observer (clock + watch_length duration) names w.watches) clock))

pub quiet_alike : (w v : World) → AreAlikeInParts w v → (call : Call) → leaves_sessions call ≡ true
    → AreSteppedAlike (step w call) (step v call)
quiet_alike w v a (calls.Submit id children rollback parts) e = absurd (cc)
quiet_alike w v a (calls.Ready id) e = absurd (cc)
quiet_alike w v a (calls.Abort id) e = absurd (cc)
quiet_alike w v a (calls.Success time id) e = absurd (cc)
quiet_alike w v a calls.Revert e = absurd (cc)
quiet_alike w v a (calls.Commit id) e = absurd (cc)
quiet_alike w v a (calls.Put name key value) e = put_alike w v a name key value
quiet_alike w v a (calls.Drop name key) e = drop_alike w v a name key
quiet_alike w v a (calls.Get name key) e = get_alike w v a name key
quiet_alike w v a (calls.StateOf id) e = state_alike w v a id
quiet_alike w v a (calls.Watch time observer duration names) e = watch_alike w v a time observer duration names
quiet_alike w v a (calls.Report time name why) e = absurd (cc)
