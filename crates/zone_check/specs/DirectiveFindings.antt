-- Relative names and long TTLs in directives.
use Rattle.std.specs.Prelude.{ℕ, ◌≡◌, if◌then◌else◌, List, map, slice_get, Option, Some, None, Result, Ok, Err}
use Rattle.dns_lexer.specs.EntryTokens.{TokenSeen, token_seen}
use Rattle.dns_lexer.specs.declared.entry_tokens.EntryToken.{EntryToken}
use Rattle.rdata_values.specs.declared.error.ErrorKind.{ErrorKind}
use Rattle.zone_reader.specs.Directives.{directive_of}
use Rattle.zone_reader.specs.declared.directive.Directive.{Directive}
use Rattle.zone_reader.specs.declared.directive.Directive.TheVariants.{Origin, Ttl, Include, Generate}
use Rattle.finding_codes.specs.declared.code.Code.TheVariants.{RelativeOrigin}
use Rattle.zone_check.specs.declared.finding.About.TheVariants.{Token}
use Rattle.zone_check.specs.declared.finding.EntryFinding.{EntryFinding}
use Rattle.zone_check.specs.FindingSpans.{finding_of_token}
use Rattle.zone_check.specs.Names.{ends_in_dot}
use Rattle.zone_check.specs.ValueFindings.{IsFirstLongTtl}

-- a name of a directive that has no dot at its end
abbrev pub relative_name_finding : Option TokenSeen → Option EntryFinding
relative_name_finding None = None
relative_name_finding (Some t) = if ends_in_dot t.text then None else Some (finding_of_token RelativeOrigin Token t)

abbrev pub relative_origin_finding : List TokenSeen → (place : ℕ) → Option EntryFinding
relative_origin_finding tokens place = relative_name_finding (slice_get tokens place)

-- the name of `$ORIGIN` is its second token, that of `$INCLUDE` its third; any token of `$TTL` may be long; findings of `$GENERATE` are about its entries
abbrev pub IsFindingIn : Directive → List EntryToken → Option EntryFinding → Type 0
IsFindingIn Origin tokens r = r ≡ relative_origin_finding (map token_seen tokens) 1
IsFindingIn Include tokens r = r ≡ relative_origin_finding (map token_seen tokens) 2
IsFindingIn Ttl tokens r = IsFirstLongTtl tokens r
IsFindingIn Generate tokens r = r ≡ None

abbrev pub IsFindingOfWord : Option (Result Directive ErrorKind) → List EntryToken → Option EntryFinding → Type 0
IsFindingOfWord (Some (Ok d)) tokens r = IsFindingIn d tokens r
IsFindingOfWord (Some (Err e)) tokens r = r ≡ None
IsFindingOfWord None tokens r = r ≡ None

-- the directive that a token names, if there is one
abbrev pub directive_named_by : Option TokenSeen → Option (Result Directive ErrorKind)
directive_named_by None = None
directive_named_by (Some t) = directive_of t

-- the first token names the directive
abbrev pub IsDirectiveFinding : List EntryToken → Option EntryFinding → Type 0
IsDirectiveFinding tokens r = IsFindingOfWord (directive_named_by (slice_get (map token_seen tokens) 0)) tokens r
