-- A module's manifest: Android's page on the APEX file format. The bytes are JSON, RFC 8259.
use Rattle.std.specs.Prelude.{ℕ, List, ◌++◌, codes, decimal, Option, None, Result, Ok, option_and_then, ok_or}
use Rattle.std.specs.Prelude.{if◌then◌else◌}
use Rattle.std.specs.Str.{is_utf8}
use Rattle.serde_json.specs.Data.{Data}
use Rattle.serde_json.specs.Read.{read}
use Rattle.serde_json.specs.Find.{get_member, as_object, as_str, as_number, as_u64}
use Rattle.apex_base.specs.Results.{◌>>=◌}
use Rattle.apex_base.specs.Text.{name_of}
use Rattle.apex_base.specs.Numbers.{version_of}
use Rattle.apex_base.specs.declared.fault.ModuleFault.{ModuleFault}
use Rattle.apex_base.specs.declared.fault.ModuleFault.TheVariants.{NotJson, NoName, BadName, NoVersion, BadVersion}
use Rattle.apex_manifest.specs.declared.manifest.Manifest.{Manifest}

-- the JSON value that the bytes spell
abbrev pub json_of : List ℕ → Option Data
json_of bytes = if is_utf8 bytes then read bytes else None

-- the name that a member is: a string that is one
abbrev pub name_in : Data → Option (List ℕ)
name_in member = option_and_then name_of (as_str member)

-- the version that a member is: a number of digits alone, in the range of versions
abbrev pub version_in : Data → Option ℕ
version_in member = option_and_then version_of (option_and_then as_u64 (as_number member))

-- what a value says, or the first fault
abbrev pub manifest_from : Data → Result Manifest ModuleFault
manifest_from value = do
  members ← ok_or (as_object value) NotJson
  name_member ← ok_or (get_member (codes "name") members) NoName
  name ← ok_or (name_in name_member) BadName
  version_member ← ok_or (get_member (codes "version") members) NoVersion
  version ← ok_or (version_in version_member) BadVersion
  Ok (record { name = name; version = version })

-- the manifest that the bytes spell, or the first fault
abbrev pub manifest_of : List ℕ → Result Manifest ModuleFault
manifest_of bytes = ok_or (json_of bytes) NotJson >>= manifest_from

-- the text {"name":"NAME","version":VERSION}
abbrev pub short_manifest : List ℕ → ℕ → List ℕ
short_manifest name version = codes "{\"name\":\"" ++ name ++ codes "\",\"version\":" ++ decimal version ++ codes "}"
