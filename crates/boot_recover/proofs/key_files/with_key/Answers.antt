use Rattle.std.proofs.Common.{◌≡◌, Some, option_map, ap, ◌∙◌, refl}
use Rattle.apex_base.specs.Modules.{FileMap}
use Rattle.apex_world.specs.Soundness.{key_of}
use Rattle.boot_recover.proofs.KeyModules.{more_ok, no_key, one_key}
use Rattle.boot_recover.proofs.key_files.with_key.Goals as goal

pub returns-in_default : goal.returns-in_default
returns-in_default c =
    more_ok (λ (kept : FileMap). kept ≡ c.new.result) (λ kept. key_of kept ≡ option_map (λ bytes. bytes.now) c.args.key)
    c.of.result c.of.ensures (λ kept e. no_key kept (e ∙ c.new.ensures) ∙ rw c.in_default.is refl)

pub returns-in-Ok : goal.returns-in-Ok
returns-in-Ok c =
    let same = c.in_ok-to_vec.ensures.items_if_clones_equal (λ x y e. e) in
    more_ok (λ (kept : FileMap). kept ≡ c.put.new.self)
    (λ kept. key_of kept ≡ option_map (λ bytes. bytes.now) c.args.key)
    c.of-in-Ok.result c.of-in-Ok.ensures
    (λ kept e. one_key kept c.of-2.result
    (e ∙ c.in-Ok.ensures.put ∙ rw (c.new-files.ensures, c.key.ensures) refl) ∙ ap Some (c.of-2.ensures ∙ same) ∙ rw c.in-Some.is refl)
