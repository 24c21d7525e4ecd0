use Rattle.std.proofs.Common.{◌≡◌, sym, ap, ◌∙◌}
use Rattle.apex_world.specs.Forms.{files_of}
use Rattle.apex_world.specs.Soundness.{key_of, short_form}
use Rattle.apex_world.proofs.ShortForms.{short_key}
use Rattle.apex_world.proofs.modules.SharedModule.key.Goals as goal

pub returns-in-Short : goal.returns-in-Short
returns-in-Short c =
    let form : files_of c.self.inside.form ≡ short_form c.in-Short.name c.in-Short.version =
    ap files_of c.in-Short.is in
    sym (ap key_of (sym c.self.view_is ∙ form) ∙ short_key c.in-Short.name c.in-Short.version)
