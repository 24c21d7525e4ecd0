-- Who watches a name, and until when: docs/watchdog.md, "Watches" (after AOSP's PackageWatchdog).
use Rattle.std.specs.Prelude.{ℕ, ◌+◌, ◌==◌, ◌&&◌, Bool, false, max, nat_lt, is_some, List, [], ◌∷◌, fold, Option, Some, None, Ok, if◌then◌else◌, ◌≡◌, refl, codes}
use Rattle.std.specs.List.{list_any}
use Rattle.std.specs.Str.{bytes_eq}
use Rattle.std.specs.FinMap as fin
use Rattle.apex_base.specs.declared.refusal.Refusal.{Refusal}
use Rattle.apex_base.specs.declared.refusal.Refusal.TheVariants.{NoObserver}
use Rattle.apex_base.specs.Results.{◌>>=◌}
use Rattle.apex_base.specs.Tables.{NameMap, part_of, value_of, with_part, with_value}
use Rattle.apex_world.specs.declared.calls.BootOrder.{BootOrder}
use Rattle.apex_world.specs.declared.calls.Image.{Image}
use Rattle.apex_world.specs.declared.calls.Observer.{Observer}
use Rattle.apex_world.specs.Data.{unknown_module}
use Rattle.apex_world.specs.Selection.{preinstalled}
use Rattle.apex_world.specs.declared.calls.Reply.TheVariants as reply
use Rattle.apex_world.specs.Stepped.{Stepped, replied}
use Rattle.apex_world.specs.Submit.{or_else, pass}
use Rattle.apex_world.specs.World.{World, Watches, empty_world}
use Rattle.apex_base.specs.declared.numbers.Scale.TheVariants.{Small}

-- the end isn't reached
abbrev pub is_before : ℕ → Option ℕ → Bool
is_before t None = false
is_before t (Some end) = nat_lt t end

-- the observer's watch of the name hasn't ended
abbrev pub is_watching : Watches → ℕ → List ℕ → Observer → Bool
is_watching watches clock name o = is_before clock (value_of watches o.name name)

-- The call

-- nobody is registered by that name
abbrev pub no_observer : List Observer → List ℕ → Option Refusal
no_observer observers name = if list_any (λ o. bytes_eq o.name name) observers then None else Some (NoObserver name)

-- the first name that the running image lacks
abbrev pub first_unknown : Option Image → List (List ℕ) → Option Refusal
first_unknown image [] = None
first_unknown image (name ∷ names) = or_else (unknown_module image name) (first_unknown image names)

-- how long a watch lasts, in milliseconds: two days where nothing is said
abbrev pub watch_length : ℕ → ℕ
watch_length duration = if duration == 0 then 172800000 else duration

abbrev pub with_watches : List ℕ → ℕ → List (List ℕ) → Watches → Watches
with_watches observer end names watches = fold (λ t name. with_value t observer name end) watches names

abbrev pub watched : World → ℕ → List ℕ → ℕ → List (List ℕ) → World
watched w clock observer duration names = record w { watches = with_watches observer (clock + watch_length duration) names w.watches; clock = clock }

abbrev pub watch : World → ℕ → List ℕ → ℕ → List (List ℕ) → Stepped
watch w time observer duration names = replied w do
  registered ← pass (no_observer w.observers observer)
  known ← pass (first_unknown w.image names)
  Ok (watched w (max w.clock time) observer duration names)

-- Boots

-- the watches of an observer whose name is there and whose end isn't reached
abbrev pub lasting : Image → ℕ → NameMap ℕ → NameMap ℕ
lasting image t ends = fin.retain_keys ends (λ name. is_some (preinstalled image.modules name) && is_before t (fin.get ends name))

-- those of the observers that a boot registers stay
abbrev pub watches_after : BootOrder → Watches → Watches
watches_after order watches = fold (λ kept o. with_part kept o.name (lasting order.image order.time (part_of watches o.name))) fin.empty order.observers

-- Worked values: a watch of no length lasts two days; at its end it has ended; nobody is registered before a boot

pub two_days : watch_length 0 ≡ 172800000
two_days = refl

pub ended : is_before 1000 (Some 1000) ≡ false
ended = refl

pub nobody : (watch (empty_world Small) 0 (codes "dog") 0 (codes "a" ∷ [])).reply ≡ reply.Refused (NoObserver (codes "dog"))
nobody = refl
