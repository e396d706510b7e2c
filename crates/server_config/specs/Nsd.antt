-- What each token of an nsd.conf means for zones.
use Rattle.std.specs.Prelude.{ℕ, zero, suc, ◌+◌, Bool, true, false, ◌||◌, if◌then◌else◌, List, [], ◌∷◌, length, codes, nat_eq, Option, None, Some, Result, Ok, Err}
use Rattle.std.specs.List.{ends_with}
use Rattle.dns_octets.specs.Lowered.{same_lowered}
use Rattle.server_config.specs.Statements.{error_of_token, is_word_kind, or_error}
use Rattle.server_config.specs.Tokens.{next_nsd_token, config_token_text}
use Rattle.server_config.specs.declared.error.ConfigError.{ConfigError}
use Rattle.server_config.specs.declared.error.ConfigErrorKind.TheVariants.{MissingWord}
use Rattle.server_config.specs.declared.nsd.NsdEvent.{NsdEvent}
use Rattle.server_config.specs.declared.nsd.NsdEvent.TheVariants as events
use Rattle.server_config.specs.declared.nsd.NsdKeyword.{NsdKeyword}
use Rattle.server_config.specs.declared.nsd.NsdKeyword.TheVariants.{Begins, Include, IncludePattern, Name, Other, RequestXfr, ZoneFile, ZonesDir}
use Rattle.server_config.specs.declared.nsd.NsdSection.{NsdSection}
use Rattle.server_config.specs.declared.nsd.NsdSection.TheVariants as sections
use Rattle.server_config.specs.declared.nsd.NsdStep.{NsdStep}
use Rattle.server_config.specs.declared.settings.OmitReason.TheVariants.{OtherType}
use Rattle.server_config.specs.declared.settings.ZoneOutcome.{ZoneOutcome}
use Rattle.server_config.specs.declared.settings.ZoneOutcome.TheVariants.{Checked, NoFile, Omitted}
use Rattle.server_config.specs.declared.token.ConfigToken.{ConfigToken}

-- keywords of zones and patterns, and of folders and files
abbrev pub nsd_attribute_keyword : List ℕ → NsdKeyword
nsd_attribute_keyword w =
    if same_lowered w (codes "name:") then Name
    else (if same_lowered w (codes "zonefile:") then ZoneFile
    else (if same_lowered w (codes "include-pattern:") then IncludePattern
    else (if same_lowered w (codes "request-xfr:") then RequestXfr
    else (if same_lowered w (codes "zonesdir:") then ZonesDir
    else (if same_lowered w (codes "include:") then Include else Other)))))

-- sections that have neither zones nor their folder
abbrev pub nsd_section_keyword : List ℕ → Bool
nsd_section_keyword w =
    same_lowered w (codes "key:") || same_lowered w (codes "tls-auth:") || same_lowered w (codes "remote-control:") || same_lowered w (codes "verify:") || same_lowered w (codes "dnstap:")

abbrev pub nsd_keyword_of : List ℕ → NsdKeyword
nsd_keyword_of w =
    if same_lowered w (codes "server:") then Begins sections.Server
    else (if same_lowered w (codes "zone:") then Begins sections.Zone
    else (if same_lowered w (codes "pattern:") then Begins sections.Pattern
    else (if nsd_section_keyword w then Begins sections.Other else nsd_attribute_keyword w)))

-- a quoted string isn't a keyword
abbrev pub read_nsd_keyword : List ℕ → ConfigToken → NsdKeyword
read_nsd_keyword text t = if is_word_kind t.kind then nsd_keyword_of (config_token_text text t) else Other

-- a value isn't a keyword
abbrev pub value_unless : ConfigToken → ConfigToken → NsdKeyword → Result ConfigToken ConfigError
value_unless t v Other = Ok v
value_unless t v (Begins s) = error_of_token t MissingWord
value_unless t v Name = error_of_token t MissingWord
value_unless t v ZoneFile = error_of_token t MissingWord
value_unless t v IncludePattern = error_of_token t MissingWord
value_unless t v RequestXfr = error_of_token t MissingWord
value_unless t v ZonesDir = error_of_token t MissingWord
value_unless t v Include = error_of_token t MissingWord

abbrev pub nsd_value_of : List ℕ → ConfigToken → Option ConfigToken → Result ConfigToken ConfigError
nsd_value_of text t (Some v) = value_unless t v (read_nsd_keyword text v)
nsd_value_of text t None = error_of_token t MissingWord

-- the value after a keyword
abbrev pub nsd_value : List ℕ → ConfigToken → Result ConfigToken ConfigError
nsd_value text t = or_error (next_nsd_token text t.end) (nsd_value_of text t)

-- zones and patterns have the same attributes
abbrev pub has_zone_attributes : NsdSection → Bool
has_zone_attributes sections.Zone = true
has_zone_attributes sections.Pattern = true
has_zone_attributes sections.Server = false
has_zone_attributes sections.Other = false

abbrev pub is_server : NsdSection → Bool
is_server sections.Server = true
is_server sections.Zone = false
is_server sections.Pattern = false
is_server sections.Other = false

abbrev pub nsd_step_to : NsdEvent → NsdSection → ℕ → Result NsdStep ConfigError
nsd_step_to event section next = Ok (record { event = event; section = section; next = next })

-- the sections in which a value is read
abbrev pub is_read_in : NsdKeyword → NsdSection → Bool
is_read_in Name section = has_zone_attributes section
is_read_in ZoneFile section = has_zone_attributes section
is_read_in IncludePattern section = has_zone_attributes section
is_read_in ZonesDir section = is_server section
is_read_in Include section = true
is_read_in (Begins s) section = false
is_read_in RequestXfr section = false
is_read_in Other section = false

abbrev pub nsd_value_event : NsdKeyword → ConfigToken → NsdEvent
nsd_value_event Name v = events.Name v
nsd_value_event ZoneFile v = events.ZoneFile v
nsd_value_event IncludePattern v = events.IncludePattern v
nsd_value_event ZonesDir v = events.ZonesDir v
nsd_value_event Include v = events.Include v
nsd_value_event (Begins s) v = events.Passed
nsd_value_event RequestXfr v = events.Passed
nsd_value_event Other v = events.Passed

abbrev pub nsd_attribute_step : NsdKeyword → List ℕ → NsdSection → ConfigToken → Result NsdStep ConfigError
nsd_attribute_step keyword text section t =
    if is_read_in keyword section then or_error (nsd_value text t) (λ v. nsd_step_to (nsd_value_event keyword v) section v.end)
    else nsd_step_to events.Passed section t.end

-- a secondary zone
abbrev pub nsd_transfer_step : NsdSection → ConfigToken → Result NsdStep ConfigError
nsd_transfer_step section t =
    if has_zone_attributes section then nsd_step_to events.RequestXfr section t.end else nsd_step_to events.Passed section t.end

-- a section begins, or an attribute of the section comes, or a token is passed over
abbrev pub nsd_keyword_step : NsdKeyword → List ℕ → NsdSection → ConfigToken → Result NsdStep ConfigError
nsd_keyword_step (Begins s) text section t = nsd_step_to (events.Section s) s t.end
nsd_keyword_step RequestXfr text section t = nsd_transfer_step section t
nsd_keyword_step Name text section t = nsd_attribute_step Name text section t
nsd_keyword_step ZoneFile text section t = nsd_attribute_step ZoneFile text section t
nsd_keyword_step IncludePattern text section t = nsd_attribute_step IncludePattern text section t
nsd_keyword_step ZonesDir text section t = nsd_attribute_step ZonesDir text section t
nsd_keyword_step Include text section t = nsd_attribute_step Include text section t
nsd_keyword_step Other text section t = nsd_attribute_step Other text section t

abbrev pub nsd_step_by : List ℕ → NsdSection → Option ConfigToken → Result NsdStep ConfigError
nsd_step_by text section (Some t) = nsd_keyword_step (read_nsd_keyword text t) text section t
nsd_step_by text section None = nsd_step_to events.End section (length text)

-- what the token at an offset means, and where the reader is after it
abbrev pub next_nsd_step : List ℕ → ℕ → NsdSection → Result NsdStep ConfigError
next_nsd_step text from section = or_error (next_nsd_token text from) (nsd_step_by text section)

-- what becomes of a zone
abbrev pub nsd_zone_outcome : Bool → Bool → ZoneOutcome
nsd_zone_outcome has_file requests_transfer = if requests_transfer then Omitted OtherType else (if has_file then Checked else NoFile)

-- a text is an nsd.conf if its first token has a colon at its end
abbrev pub ends_in_colon : List ℕ → Result (Option ConfigToken) ConfigError → Bool
ends_in_colon text (Ok (Some t)) = ends_with nat_eq (config_token_text text t) (codes ":")
ends_in_colon text (Ok None) = false
ends_in_colon text (Err e) = false

abbrev pub is_nsd_config : List ℕ → Bool
is_nsd_config text = ends_in_colon text (next_nsd_token text 0)

-- an event, and what comes after it
abbrev pub nsd_event_before : NsdEvent → List (Result NsdEvent ConfigError) → List (Result NsdEvent ConfigError)
nsd_event_before events.Passed more = more
nsd_event_before events.End more = Ok events.End ∷ []
nsd_event_before event more = Ok event ∷ more

abbrev pub nsd_events_by : Result NsdStep ConfigError → (NsdStep → List (Result NsdEvent ConfigError)) → List (Result NsdEvent ConfigError)
nsd_events_by (Err e) more = Err e ∷ []
nsd_events_by (Ok step) more = nsd_event_before step.event (more step)

-- at most a number of events
abbrev pub nsd_events_among : ℕ → List ℕ → ℕ → NsdSection → List (Result NsdEvent ConfigError)
nsd_events_among zero text from section = []
nsd_events_among (suc most) text from section = nsd_events_by (next_nsd_step text from section) (λ step. nsd_events_among most text step.next step.section)

-- what a text says of zones, in order, up to its end or the first error
abbrev pub nsd_events : List ℕ → NsdSection → List (Result NsdEvent ConfigError)
nsd_events text section = nsd_events_among (length text + 1) text 0 section
