-- What becomes of a zone.
use Rattle.std.specs.Prelude.{Bool, false, ◌||◌, if◌then◌else◌, Option, None, Some}
use Rattle.server_config.specs.declared.settings.FileFormat.{FileFormat}
use Rattle.server_config.specs.declared.settings.FileFormat.TheVariants.{Map, Raw, Text}
use Rattle.server_config.specs.declared.settings.OmitReason.TheVariants.{Database, Format, InView, OtherType, Template, UnknownType}
use Rattle.server_config.specs.declared.settings.Settings.{Settings}
use Rattle.server_config.specs.declared.settings.ZoneOutcome.{ZoneOutcome}
use Rattle.server_config.specs.declared.settings.ZoneOutcome.TheVariants.{Checked, NoFile, NoType, Omitted}
use Rattle.server_config.specs.declared.settings.ZoneSettings.{ZoneSettings}
use Rattle.server_config.specs.declared.settings.ZoneType.{ZoneType}
use Rattle.server_config.specs.declared.settings.ZoneType.TheVariants.{DelegationOnly, Forward, Hint, Mirror, Primary, Redirect, Secondary, Stub, Unknown}

-- nothing is set
abbrev pub no_settings : Settings
no_settings = record { format = None; check_names = None; inline_signing = None; has_policy = None; auto_dnssec = None }

abbrev pub no_zone_settings : ZoneSettings
no_zone_settings = record { zone_type = None; has_file = false; is_in_view = false; has_database = false; has_template = false; settings = no_settings }

-- the value of a block, or that of the block around it
abbrev pub inner_or : {T : Type 0} → Option T → Option T → Option T
inner_or (Some x) outer = Some x
inner_or None outer = outer

abbrev pub settled : Settings → Settings → Settings
settled inner outer = record {
  format = inner_or inner.format outer.format;
  check_names = inner_or inner.check_names outer.check_names;
  inline_signing = inner_or inner.inline_signing outer.inline_signing;
  has_policy = inner_or inner.has_policy outer.has_policy;
  auto_dnssec = inner_or inner.auto_dnssec outer.auto_dnssec;
}

abbrev pub is_set : Option Bool → Bool
is_set (Some b) = b
is_set None = false

-- a server signs zones by any of three statements
abbrev pub signs_zones : Settings → Bool
signs_zones s = is_set s.inline_signing || is_set s.has_policy || is_set s.auto_dnssec

-- a file is checked if it is in presentation format, as it is by default
abbrev pub format_outcome : Option FileFormat → ZoneOutcome
format_outcome (Some Text) = Checked
format_outcome (Some Raw) = Omitted Format
format_outcome (Some Map) = Omitted Format
format_outcome None = Checked

-- a primary zone has a database or a file
abbrev pub primary_outcome : ZoneSettings → Option FileFormat → ZoneOutcome
primary_outcome z format = if z.has_database then Omitted Database else (if z.has_file then format_outcome format else NoFile)

-- a zone of another type, or of one that is not known, is left out
abbrev pub typed_outcome : ZoneSettings → Option FileFormat → Option ZoneType → ZoneOutcome
typed_outcome z format (Some Primary) = primary_outcome z format
typed_outcome z format (Some Secondary) = Omitted OtherType
typed_outcome z format (Some Mirror) = Omitted OtherType
typed_outcome z format (Some Stub) = Omitted OtherType
typed_outcome z format (Some Hint) = Omitted OtherType
typed_outcome z format (Some Forward) = Omitted OtherType
typed_outcome z format (Some Redirect) = Omitted OtherType
typed_outcome z format (Some DelegationOnly) = Omitted OtherType
typed_outcome z format (Some Unknown) = Omitted UnknownType
typed_outcome z format None = NoType

-- and so is one of another view, or with a template
abbrev pub zone_outcome : ZoneSettings → Settings → ZoneOutcome
zone_outcome z outer =
    if z.is_in_view then Omitted InView
    else (if z.has_template then Omitted Template else typed_outcome z (inner_or z.settings.format outer.format) z.zone_type)
