-- What a statement of named.conf means for zones.
use Rattle.std.specs.Prelude.{ℕ, Bool, true, false, not, if◌then◌else◌, List, Option, None, Some, is_some, Result, Ok, Err}
use Rattle.server_config.specs.Keywords.{file_format_of, is_none_word, is_other_names_word, is_primary_word, is_signing_word, is_yes_word, severity_of, zone_type_of}
use Rattle.server_config.specs.Lexemes.{error_between}
use Rattle.server_config.specs.States.{block_settings, is_zone, with_block_settings, with_zone}
use Rattle.server_config.specs.Tokens.{config_token_text}
use Rattle.server_config.specs.declared.clause.Clause.{Clause}
use Rattle.server_config.specs.declared.clause.ClauseWords.{ClauseWords}
use Rattle.server_config.specs.declared.error.ConfigError.{ConfigError}
use Rattle.server_config.specs.declared.error.ConfigErrorKind.{ConfigErrorKind}
use Rattle.server_config.specs.declared.error.ConfigErrorKind.TheVariants.{ExpectedWord, MissingBlock, MissingWord, Repeated, TrailingWord, UnknownValue, UnquotedString}
use Rattle.server_config.specs.declared.keyword.Keyword.{Keyword}
use Rattle.server_config.specs.declared.keyword.Keyword.TheVariants as keywords
use Rattle.server_config.specs.declared.settings.FileFormat.{FileFormat}
use Rattle.server_config.specs.declared.settings.Settings.{Settings}
use Rattle.server_config.specs.declared.settings.Severity.{Severity}
use Rattle.server_config.specs.declared.settings.ZoneType.{ZoneType}
use Rattle.server_config.specs.declared.settings.ZoneType.TheVariants.{Unknown}
use Rattle.server_config.specs.declared.state.ConfigBlock.{ConfigBlock}
use Rattle.server_config.specs.declared.state.ConfigBlock.TheVariants.{Options, Outside, View, Zone, ZoneInView}
use Rattle.server_config.specs.declared.state.ConfigEvent.{ConfigEvent}
use Rattle.server_config.specs.declared.state.ConfigEvent.TheVariants.{Directory, File, Include, MaxZoneTtl, Passed, UnknownType}
use Rattle.server_config.specs.declared.state.ConfigState.{ConfigState}
use Rattle.server_config.specs.declared.state.ConfigStep.{ConfigStep}
use Rattle.server_config.specs.declared.token.ConfigToken.{ConfigToken}
use Rattle.server_config.specs.declared.token.TokenKind.{TokenKind}
use Rattle.server_config.specs.declared.token.TokenKind.TheVariants.{CloseBrace, Mark, OpenBrace, Quoted, Semicolon, Word}

-- what follows, if there is no error
abbrev pub or_error : {A B : Type 0} → Result A ConfigError → (A → Result B ConfigError) → Result B ConfigError
or_error (Ok x) next = next x
or_error (Err e) next = Err e

-- an error at a token, and one at the end of a clause
abbrev pub error_of_token : {A : Type 0} → ConfigToken → ConfigErrorKind → Result A ConfigError
error_of_token t kind = Err (error_between t.at t.end kind)

abbrev pub error_of_end : {A : Type 0} → Clause → ConfigErrorKind → Result A ConfigError
error_of_end c kind = Err (error_between c.at c.next kind)

abbrev pub is_quoted_string : TokenKind → Bool
is_quoted_string Quoted = true
is_quoted_string Word = false
is_quoted_string OpenBrace = false
is_quoted_string CloseBrace = false
is_quoted_string Semicolon = false
is_quoted_string Mark = false

abbrev pub is_word_kind : TokenKind → Bool
is_word_kind Word = true
is_word_kind Quoted = false
is_word_kind OpenBrace = false
is_word_kind CloseBrace = false
is_word_kind Semicolon = false
is_word_kind Mark = false

-- a path is a quoted string
abbrev pub path_token : ConfigToken → Result ConfigToken ConfigError
path_token t = if is_quoted_string t.kind then Ok t else error_of_token t UnquotedString

-- a keyword is not quoted
abbrev pub word_token : ConfigToken → Result ConfigToken ConfigError
word_token t = if is_word_kind t.kind then Ok t else error_of_token t ExpectedWord

-- a name is a word or a quoted string
abbrev pub name_token : ConfigToken → Result ConfigToken ConfigError
name_token t = if is_quoted_string t.kind then Ok t else word_token t

-- a word that a statement has
abbrev pub needed_word : Clause → Option ConfigToken → Result ConfigToken ConfigError
needed_word c (Some t) = Ok t
needed_word c None = error_of_end c MissingWord

abbrev pub nothing_more : ConfigToken → Option ConfigToken → Result ConfigToken ConfigError
nothing_more t None = Ok t
nothing_more t (Some more) = error_of_token more TrailingWord

-- the one value after a keyword
abbrev pub one_value : Clause → ClauseWords → Result ConfigToken ConfigError
one_value c w = or_error (needed_word c w.second) (λ t. nothing_more t w.third)

abbrev pub quoted_value : Clause → ClauseWords → Result ConfigToken ConfigError
quoted_value c w = or_error (needed_word c w.second) (λ t. or_error (path_token t) (λ t. nothing_more t w.third))

abbrev pub word_value : Clause → ClauseWords → Result ConfigToken ConfigError
word_value c w = or_error (needed_word c w.second) (λ t. or_error (word_token t) (λ t. nothing_more t w.third))

abbrev pub step_to : ConfigEvent → ConfigState → ℕ → ConfigStep
step_to event s next = record { event = event; state = s; next = next }

-- a statement that says nothing of zones
abbrev pub pass : ConfigState → Clause → Result ConfigStep ConfigError
pass s c = Ok (step_to Passed s c.next)

-- the folder of `options`
abbrev pub directory_in : ConfigBlock → ConfigState → Clause → ClauseWords → Result ConfigStep ConfigError
directory_in Options s c w = or_error (quoted_value c w) (λ t. Ok (step_to (Directory t) s c.next))
directory_in Outside s c w = pass s c
directory_in View s c w = pass s c
directory_in Zone s c w = pass s c
directory_in ZoneInView s c w = pass s c

-- the one file of a zone
abbrev pub with_file : ConfigState → ConfigState
with_file s = with_zone s (record s.zone { has_file = true })

abbrev pub file_step : ConfigState → Clause → ClauseWords → ConfigToken → Result ConfigStep ConfigError
file_step s c w first =
    if is_zone s.block then
    (if s.zone.has_file then error_of_token first Repeated else or_error (quoted_value c w) (λ t. Ok (step_to (File t) (with_file s) c.next)))
    else pass s c

-- the one type of a zone
abbrev pub with_type : ConfigState → Option ZoneType → ConfigState
with_type s zone_type = with_zone s (record s.zone { zone_type = zone_type })

abbrev pub typed_step : ConfigState → Clause → ConfigToken → Option ZoneType → Result ConfigStep ConfigError
typed_step s c t None = Ok (step_to (UnknownType t) (with_type s (Some Unknown)) c.next)
typed_step s c t (Some zone_type) = pass (with_type s (Some zone_type)) c

abbrev pub type_step : List ℕ → ConfigState → Clause → ClauseWords → ConfigToken → Result ConfigStep ConfigError
type_step text s c w first =
    if is_zone s.block then
    (if is_some s.zone.zone_type then error_of_token first Repeated else or_error (word_value c w) (λ t. typed_step s c t (zone_type_of (config_token_text text t))))
    else pass s c

-- what keeps a zone from being checked, whatever its value is
abbrev pub in_view_step : ConfigState → Clause → Result ConfigStep ConfigError
in_view_step s c = if is_zone s.block then pass (with_zone s (record s.zone { is_in_view = true })) c else pass s c

abbrev pub database_step : ConfigState → Clause → Result ConfigStep ConfigError
database_step s c = if is_zone s.block then pass (with_zone s (record s.zone { has_database = true })) c else pass s c

abbrev pub template_step : ConfigState → Clause → Result ConfigStep ConfigError
template_step s c = if is_zone s.block then pass (with_zone s (record s.zone { has_template = true })) c else pass s c

-- the format of files
abbrev pub formatted_step : ConfigState → Clause → Settings → ConfigToken → Option FileFormat → Result ConfigStep ConfigError
formatted_step s c settings t None = error_of_token t UnknownValue
formatted_step s c settings t (Some format) = pass (with_block_settings s (record settings { format = Some format })) c

abbrev pub format_in : List ℕ → ConfigState → Clause → ClauseWords → Option Settings → Result ConfigStep ConfigError
format_in text s c w None = pass s c
format_in text s c w (Some settings) = or_error (word_value c w) (λ t. formatted_step s c settings t (file_format_of (config_token_text text t)))

-- the largest TTL
abbrev pub ttl_in : ConfigState → Clause → ClauseWords → Option Settings → Result ConfigStep ConfigError
ttl_in s c w None = pass s c
ttl_in s c w (Some settings) = or_error (one_value c w) (λ t. Ok (step_to (MaxZoneTtl t) s c.next))

-- the severity of `check-names`: a zone has it alone, and `options` and views after the names for which it is
abbrev pub checked_step : ConfigState → Clause → Settings → ConfigToken → Option Severity → Result ConfigStep ConfigError
checked_step s c settings t None = error_of_token t UnknownValue
checked_step s c settings t (Some severity) = pass (with_block_settings s (record settings { check_names = Some severity })) c

abbrev pub severity_step : List ℕ → ConfigState → Clause → Settings → ConfigToken → Result ConfigStep ConfigError
severity_step text s c settings t = or_error (word_token t) (λ t. checked_step s c settings t (severity_of (config_token_text text t)))

abbrev pub names_step : List ℕ → ConfigState → Clause → Settings → ConfigToken → ConfigToken → Result ConfigStep ConfigError
names_step text s c settings names t =
    if is_primary_word (config_token_text text names) then severity_step text s c settings t
    else (if is_other_names_word (config_token_text text names) then pass s c else error_of_token names UnknownValue)

abbrev pub names_in : List ℕ → ConfigState → Clause → ClauseWords → Settings → Result ConfigStep ConfigError
names_in text s c w settings =
    if is_zone s.block then or_error (one_value c w) (severity_step text s c settings)
    else or_error (needed_word c w.second) (λ names. or_error (needed_word c w.third) (names_step text s c settings names))

abbrev pub check_names_in : List ℕ → ConfigState → Clause → ClauseWords → Option Settings → Result ConfigStep ConfigError
check_names_in text s c w None = pass s c
check_names_in text s c w (Some settings) = names_in text s c w settings

-- whether the server signs the zones of a block, by the value of a statement
abbrev pub with_signing : Keyword → Settings → List ℕ → Settings
with_signing keywords.InlineSigning settings word = record settings { inline_signing = Some (is_yes_word word) }
with_signing keywords.DnssecPolicy settings word = record settings { has_policy = Some (not (is_none_word word)) }
with_signing _ settings word = record settings { auto_dnssec = Some (is_signing_word word) }

abbrev pub signing_in : Keyword → List ℕ → ConfigState → Clause → ClauseWords → Option Settings → Result ConfigStep ConfigError
signing_in keyword text s c w None = pass s c
signing_in keyword text s c w (Some settings) =
    or_error (one_value c w) (λ t. pass (with_block_settings s (with_signing keyword settings (config_token_text text t))) c)

abbrev pub include_step : ConfigState → Clause → ClauseWords → Result ConfigStep ConfigError
include_step s c w = or_error (quoted_value c w) (λ t. Ok (step_to (Include t) s c.next))

-- a statement without a block
abbrev pub simple_step : Keyword → List ℕ → ConfigState → Clause → ClauseWords → ConfigToken → Result ConfigStep ConfigError
simple_step keywords.Include text s c w first = include_step s c w
simple_step keywords.Options text s c w first = error_of_end c MissingBlock
simple_step keywords.View text s c w first = error_of_end c MissingBlock
simple_step keywords.Zone text s c w first = error_of_end c MissingBlock
simple_step keywords.Directory text s c w first = directory_in s.block s c w
simple_step keywords.Format text s c w first = format_in text s c w (block_settings s)
simple_step keywords.MaxTtl text s c w first = ttl_in s c w (block_settings s)
simple_step keywords.CheckNames text s c w first = check_names_in text s c w (block_settings s)
simple_step keywords.TypeOf text s c w first = type_step text s c w first
simple_step keywords.File text s c w first = file_step s c w first
simple_step keywords.InView text s c w first = in_view_step s c
simple_step keywords.Database text s c w first = database_step s c
simple_step keywords.Template text s c w first = template_step s c
simple_step keywords.InlineSigning text s c w first = signing_in keywords.InlineSigning text s c w (block_settings s)
simple_step keywords.DnssecPolicy text s c w first = signing_in keywords.DnssecPolicy text s c w (block_settings s)
simple_step keywords.AutoDnssec text s c w first = signing_in keywords.AutoDnssec text s c w (block_settings s)
simple_step keywords.Other text s c w first = pass s c
