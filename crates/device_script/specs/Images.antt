-- Parts, and images with one more module: docs/formats/script.md, "Lines".
use Rattle.std.specs.Prelude.{ℕ, Bool, nat_lt, List, [], ◌∷◌, ◌++◌, length, Result, Ok, Err, ok_or, if◌then◌else◌}
use Rattle.std.specs.List.{list_any}
use Rattle.std.specs.Str.{bytes_eq}
use Rattle.std.specs.FinMap as fin
use Rattle.apex_base.specs.declared.fault.ModuleFault.{ModuleFault}
use Rattle.apex_base.specs.declared.numbers.Scale.{Scale}
use Rattle.apex_base.specs.Modules.{FileMap}
use Rattle.apex_base.specs.Numbers.{scale_modules}
use Rattle.apex_manifest.specs.declared.manifest.Manifest.{Manifest}
use Rattle.apex_world.specs.declared.calls.Image.{Image}
use Rattle.apex_world.specs.declared.modules.Package.{Package}
use Rattle.apex_world.specs.Soundness.{manifest_in, short_form}
use Rattle.device_script.specs.declared.fault.LineFault.{LineFault}
use Rattle.device_script.specs.declared.fault.LineFault.TheVariants.{NoLabel, BadModule, Twice, Full}
use Rattle.device_script.specs.declared.words.PartWord.{PartWord}
use Rattle.device_script.specs.declared.words.PartWord.TheVariants.{Short, Label}
use Rattle.device_script.specs.Blocks.{LabelMap}

-- the module that the word with this number names
abbrev pub module_named : LabelMap → ℕ → PartWord → Result FileMap LineFault
module_named labels word (Short name version) = Ok (short_form name version)
module_named labels word (Label name) = ok_or (fin.get labels name) (NoLabel word)

abbrev pub with_manifest_by : FileMap → Result Manifest ModuleFault → Result Package LineFault
with_manifest_by m (Ok manifest) = Ok (record { name = manifest.name; version = manifest.version; content = m })
with_manifest_by m (Err fault) = Err (BadModule fault)

-- a module with what its manifest says
abbrev pub with_manifest : FileMap → Result Package LineFault
with_manifest m = with_manifest_by m (manifest_in m)

abbrev pub has_module : List Package → List ℕ → Bool
has_module modules name = list_any (λ m. bytes_eq m.name name) modules

-- an image with one more module
abbrev pub image_with : Scale → Image → Package → Result Image LineFault
image_with scale image m =
    if has_module image.modules m.name then Err Twice
    else (if nat_lt (length image.modules) (scale_modules scale)
    then Ok (record image { modules = image.modules ++ m ∷ [] })
    else Err Full)
