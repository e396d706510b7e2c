-- The words that concern zones, in any case of letters.
use Rattle.std.specs.Prelude.{ℕ, Bool, ◌||◌, if◌then◌else◌, List, codes, Option, None, Some}
use Rattle.dns_octets.specs.Lowered.{same_lowered}
use Rattle.server_config.specs.declared.keyword.Keyword.{Keyword}
use Rattle.server_config.specs.declared.keyword.Keyword.TheVariants.{AutoDnssec, CheckNames, Database, Directory, DnssecPolicy, File, Format, InView, Include, InlineSigning, MaxTtl, Options, Other, Template, TypeOf, View, Zone}
use Rattle.server_config.specs.declared.settings.FileFormat.{FileFormat}
use Rattle.server_config.specs.declared.settings.FileFormat.TheVariants.{Map, Raw, Text}
use Rattle.server_config.specs.declared.settings.Severity.{Severity}
use Rattle.server_config.specs.declared.settings.Severity.TheVariants.{Fail, Ignore, Warn}
use Rattle.server_config.specs.declared.settings.ZoneType.{ZoneType}
use Rattle.server_config.specs.declared.settings.ZoneType.TheVariants.{DelegationOnly, Forward, Hint, Mirror, Primary, Redirect, Secondary, Stub}

-- statements by which a server signs zones
abbrev pub signing_keyword_of : List ℕ → Keyword
signing_keyword_of w =
    if same_lowered w (codes "inline-signing") then InlineSigning
    else (if same_lowered w (codes "dnssec-policy") then DnssecPolicy else (if same_lowered w (codes "auto-dnssec") then AutoDnssec else Other))

-- statements of a zone
abbrev pub zone_keyword_of : List ℕ → Keyword
zone_keyword_of w =
    if same_lowered w (codes "type") then TypeOf
    else (if same_lowered w (codes "file") then File
    else (if same_lowered w (codes "in-view") then InView
    else (if same_lowered w (codes "database") || same_lowered w (codes "dlz") then Database
    else (if same_lowered w (codes "template") then Template else signing_keyword_of w))))

-- statements that begin with a word
abbrev pub keyword_of : List ℕ → Keyword
keyword_of w =
    if same_lowered w (codes "include") then Include
    else (if same_lowered w (codes "options") then Options
    else (if same_lowered w (codes "view") then View
    else (if same_lowered w (codes "zone") then Zone
    else (if same_lowered w (codes "directory") then Directory
    else (if same_lowered w (codes "masterfile-format") then Format
    else (if same_lowered w (codes "max-zone-ttl") then MaxTtl
    else (if same_lowered w (codes "check-names") then CheckNames else zone_keyword_of w)))))))

abbrev pub is_primary_word : List ℕ → Bool
is_primary_word w = same_lowered w (codes "primary") || same_lowered w (codes "master")

-- types of zones
abbrev pub zone_type_of : List ℕ → Option ZoneType
zone_type_of w =
    if is_primary_word w || same_lowered w (codes "native") then Some Primary
    else (if same_lowered w (codes "secondary") || same_lowered w (codes "slave") then Some Secondary
    else (if same_lowered w (codes "mirror") then Some Mirror
    else (if same_lowered w (codes "stub") || same_lowered w (codes "static-stub") then Some Stub
    else (if same_lowered w (codes "hint") then Some Hint
    else (if same_lowered w (codes "forward") then Some Forward
    else (if same_lowered w (codes "redirect") then Some Redirect
    else (if same_lowered w (codes "delegation-only") then Some DelegationOnly else None)))))))

-- formats of files
abbrev pub file_format_of : List ℕ → Option FileFormat
file_format_of w =
    if same_lowered w (codes "text") then Some Text
    else (if same_lowered w (codes "raw") then Some Raw else (if same_lowered w (codes "map") then Some Map else None))

-- what `check-names` does
abbrev pub severity_of : List ℕ → Option Severity
severity_of w =
    if same_lowered w (codes "fail") then Some Fail
    else (if same_lowered w (codes "warn") then Some Warn else (if same_lowered w (codes "ignore") then Some Ignore else None))

-- values with which the server signs a zone: of `inline-signing`, other than this one of `dnssec-policy`, and of `auto-dnssec`
abbrev pub is_yes_word : List ℕ → Bool
is_yes_word w = same_lowered w (codes "yes") || same_lowered w (codes "true") || same_lowered w (codes "1")

abbrev pub is_none_word : List ℕ → Bool
is_none_word w = same_lowered w (codes "none") || same_lowered w (codes "\"none\"")

abbrev pub is_signing_word : List ℕ → Bool
is_signing_word w = same_lowered w (codes "allow") || same_lowered w (codes "maintain")

-- names that `check-names` has besides those of primary zones
abbrev pub is_other_names_word : List ℕ → Bool
is_other_names_word w = same_lowered w (codes "secondary") || same_lowered w (codes "slave") || same_lowered w (codes "response")
