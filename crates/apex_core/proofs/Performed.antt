-- What a call leaves that was judged and done. Callers want `weighs`,
-- `small_now`, `small_next`, `weighs_next`, `stands_next`, `stands_same`, `stands_quiet` and `by_answer`.
use Rattle.std.proofs.Common.{◌≡◌, ◌≤◌, ◌<◌, ◌^◌, ℕ, [], Some, Result, Ok, Err, sym, ap, subst, ◌∙◌, refl, arith, OnErr}
use Rattle.apex_base.specs.declared.numbers.Scale.{Scale}
use Rattle.apex_base.specs.declared.numbers.Scale.TheVariants.{Small, Standard}
use Rattle.apex_base.specs.Keys.{RowMap}
use Rattle.apex_base.specs.Numbers.{scale_file_weight}
use Rattle.apex_base.specs.RowSums.{kept_weight}
use Rattle.apex_world.specs.declared.calls.Call.{Call}
use Rattle.apex_world.specs.Lawful.{Lawful}
use Rattle.apex_world.specs.Limits.{weight}
use Rattle.apex_world.specs.Rows.{rows}
use Rattle.apex_world.specs.Step.{step}
use Rattle.apex_world.specs.World.{World}
use Rattle.world_facts.proofs.facts.RowWeightLemmas.{file_rows_weigh}
use Rattle.row_map.specs.Rows.{changed}
use Rattle.apex_core.specs.declared.answer.Answer.{Answer}
use Rattle.apex_core.specs.declared.answer.Answer.TheVariants.{Answered, NoMemory}
use Rattle.call_judge.specs.declared.judged.Judged.{Judged}
use Rattle.call_judge.specs.declared.judged.Patch.{Patch}
use Rattle.call_judge.specs.declared.judged.Patch.TheVariants.{Nothing}
use Rattle.call_judge.specs.declared.tables.Tables.{Tables}
use Rattle.call_judge.specs.Stands.{StandsFor}
use Rattle.call_judge.specs.Judged.{IsJudged, IsPatched, IsSame, patched, clock_after, units_after, unfinished_after}
use Rattle.apex_core.specs.Core.{IfAnswered, IfNoMemory}

small_scale : (scale : Scale) (n : ℕ) → n ≤ scale_file_weight scale → n < 2 ^ 32
small_scale Small n low = omega (arith, low)
small_scale Standard n low = omega (arith, low)

-- the rows of a world weigh little
small_rows : (kept : RowMap) (w : World) → Lawful w → kept ≡ rows w → kept_weight kept < 2 ^ 32
small_rows kept w law e = small_scale w.scale (kept_weight kept)
    (subst (λ (n : ℕ). n ≤ scale_file_weight w.scale) (sym (ap kept_weight e ∙ file_rows_weigh w law)) law.bounds.weight)

module _ (kept : RowMap) (tables : Tables) (w : World) (s : StandsFor kept tables w) where
  -- the rows weigh what the tables say
  pub weighs : tables.weight ≡ kept_weight kept
  weighs = s.weight ∙ sym (file_rows_weigh w s.running.lawful) ∙ sym (ap kept_weight s.stored)

  pub small_now : kept_weight kept < 2 ^ 32
  small_now = small_rows kept w s.running.lawful s.stored

  -- and so after a call that was judged
  pub small_next : (call : Call) (judged : Judged) → IsJudged judged kept w call
      → kept_weight (changed kept judged.rows.items) < 2 ^ 32
  small_next call judged j = small_rows (changed kept judged.rows.items) (step w call).world j.running.lawful j.stored

  pub weighs_next : (call : Call) (judged : Judged) → IsJudged judged kept w call
      → kept_weight (changed kept judged.rows.items) ≡ weight (step w call).world
  weighs_next call judged j = ap kept_weight j.stored ∙ file_rows_weigh (step w call).world j.running.lawful

-- after a call that was judged, the new rows and tables stand for its world
pub stands_next : (kept kept' : RowMap) (before after : Tables) (w : World) (call : Call) (judged : Judged) (n : ℕ)
    → StandsFor kept before w → IsJudged judged kept w call → kept' ≡ changed kept judged.rows.items
    → n ≡ weight (step w call).world → IsPatched judged.patch n before after
    → StandsFor kept' after (step w call).world
stands_next kept kept' before after w call judged n s j e weighs p = record {
  running = j.running;
  simple = j.simple;
  stored = e ∙ j.stored;
  scale = p.scale ∙ s.scale ∙ j.rest.scale;
  sessions = p.sessions ∙ ap (patched judged.patch) s.sessions ∙ j.sessions;
  units = p.units ∙ ap (units_after judged.patch) s.units ∙ j.units;
  unfinished = λ name.
      p.unfinished name ∙ ap (unfinished_after judged.patch name) (s.unfinished name) ∙ j.unfinished name;
  weight = p.weight ∙ weighs;
  image = ap Some p.image ∙ s.image ∙ j.rest.image;
  active = p.active ∙ s.active ∙ j.rest.active;
  clock = p.clock ∙ ap (clock_after judged.patch) s.clock ∙ j.clock;
}

-- the same tables stand for the same world
pub stands_same : (kept kept' : RowMap) (before after : Tables) (w : World) → StandsFor kept before w → kept' ≡ kept
    → IsSame before after → StandsFor kept' after w
stands_same kept kept' before after w s e p = record {
  running = s.running;
  simple = s.simple;
  stored = e ∙ s.stored;
  scale = p.scale ∙ s.scale;
  sessions = p.sessions ∙ s.sessions;
  units = p.units ∙ s.units;
  unfinished = λ name. p.unfinished name ∙ s.unfinished name;
  weight = p.weight ∙ s.weight;
  image = ap Some p.image ∙ s.image;
  active = p.active ∙ s.active;
  clock = p.clock ∙ s.clock;
}

-- what holds anyway holds after an error
pub if_err : {X Y P : Type 0} (result : Result X Y) → P → OnErr result P
if_err (Ok x) h = tt
if_err (Err y) h = h

-- what follows from what holds after a reply, and from what holds where memory ran out
pub by_answer : {A B P : Type 0} (answer : Answer) → IfAnswered answer (λ reply. A)
    → IfNoMemory answer (λ entered. B) → (A → P) → (B → P) → P
by_answer (Answered reply) a b f g = f a
by_answer (NoMemory entered) a b f g = g b

-- the same rows and tables, where the call changes nothing
pub stands_quiet : (kept : RowMap) (tables : Tables) (w : World) (call : Call) (judged : Judged)
    → StandsFor kept tables w → IsJudged judged kept w call → judged.rows.items ≡ [] → judged.patch ≡ Nothing
    → StandsFor kept tables (step w call).world
stands_quiet kept tables w call judged s j none nothing =
    stands_next kept kept tables tables w call judged tables.weight s j (sym (ap (changed kept) none))
    (weighs kept tables w s ∙ ap kept_weight (sym (ap (changed kept) none)) ∙ weighs_next kept tables w s call judged j)
    (subst (λ (p : Patch). IsPatched p tables.weight tables tables) (sym nothing) (record {
      sessions = refl;
      clock = refl;
      units = refl;
      unfinished = λ name. refl;
      weight = refl;
      scale = refl;
      image = refl;
      active = refl;
    }))
