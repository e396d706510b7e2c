-- Worked examples of the definitions, each computed. BIND 9.18 reads these texts alike.
use Rattle.std.specs.Prelude.{◌≡◌, ℕ, true, false, List, [], ◌∷◌, length, map, None, Some, Result, Ok, Err, codes, refl}
use Rattle.server_config.specs.Lexemes.{error_between}
use Rattle.server_config.specs.Nsd.{nsd_events}
use Rattle.server_config.specs.Settings.{no_settings, no_zone_settings, settled, signs_zones, zone_outcome}
use Rattle.server_config.specs.Statements.{with_signing}
use Rattle.server_config.specs.States.{first_state, state_inside}
use Rattle.server_config.specs.Steps.{config_events}
use Rattle.server_config.specs.Strings.{named_string}
use Rattle.server_config.specs.Tokens.{config_tokens}
use Rattle.server_config.specs.ZonePaths.{expanded_path}
use Rattle.server_config.specs.declared.error.ConfigError.{ConfigError}
use Rattle.server_config.specs.declared.error.ConfigErrorKind.TheVariants.{EmptyStatement, ExpectedWord, MissingBlock, MissingSemicolon, MissingWord, OpenBlock, OpenComment, OpenQuote, Repeated, TrailingWord, UnexpectedClose, UnknownValue, UnquotedString}
use Rattle.server_config.specs.declared.state.ConfigEvent.{ConfigEvent}
use Rattle.server_config.specs.declared.state.ConfigEvent.TheVariants.{CloseOptions, CloseView, CloseZone, Directory, End, File, Include, MaxZoneTtl, OpenOptions, OpenView, OpenZone, UnknownType}
use Rattle.server_config.specs.declared.keyword.Keyword.TheVariants.{AutoDnssec, DnssecPolicy, InlineSigning}
use Rattle.server_config.specs.declared.nsd.NsdEvent.{NsdEvent}
use Rattle.server_config.specs.declared.nsd.NsdEvent.TheVariants as events
use Rattle.server_config.specs.declared.nsd.NsdSection.TheVariants as sections
use Rattle.server_config.specs.declared.settings.FileFormat.TheVariants.{Map, Raw, Text}
use Rattle.server_config.specs.declared.settings.OmitReason.TheVariants.{Database, Format, InView, OtherType, Template}
use Rattle.server_config.specs.declared.settings.Settings.{Settings}
use Rattle.server_config.specs.declared.settings.ZoneOutcome.TheVariants.{Checked, NoFile, NoType, Omitted}
use Rattle.server_config.specs.declared.settings.ZoneSettings.{ZoneSettings}
use Rattle.server_config.specs.declared.settings.ZoneType.TheVariants.{Primary, Secondary}
use Rattle.server_config.specs.declared.state.ConfigBlock.TheVariants.{Zone}
use Rattle.server_config.specs.declared.state.ConfigState.{ConfigState}
use Rattle.server_config.specs.declared.token.ConfigToken.{ConfigToken}
use Rattle.server_config.specs.declared.token.TokenKind.{TokenKind}
use Rattle.server_config.specs.declared.token.TokenKind.TheVariants.{Word, Quoted, OpenBrace, CloseBrace, Semicolon, Mark}

abbrev pub config_token : TokenKind → ℕ → ℕ → ConfigToken
config_token kind at end = record { kind = kind; at = at; end = end }

abbrev row_word : ℕ → ℕ → ConfigToken
row_word = config_token Word

-- a zone
zone_tokens : config_tokens (codes "zone \"a.b\" { file \"d.db\"; };")
    ≡ Ok (row_word 0 4 ∷ config_token Quoted 5 10 ∷ config_token OpenBrace 11 12 ∷ row_word 13 17 ∷ config_token Quoted 18 24 ∷ config_token Semicolon 24 25
    ∷ config_token CloseBrace 26 27 ∷ config_token Semicolon 27 28 ∷ [])
zone_tokens = refl

-- a path without quotes is two words with a slash between; so is a prefix
unquoted_path : config_tokens (codes "zones/d.db;") ≡ Ok (row_word 0 5 ∷ config_token Mark 5 6 ∷ row_word 6 10 ∷ config_token Semicolon 10 11 ∷ [])
unquoted_path = refl

negated_prefix : config_tokens (codes "!10/8") ≡ Ok (config_token Mark 0 1 ∷ row_word 1 3 ∷ config_token Mark 3 4 ∷ row_word 4 5 ∷ [])
negated_prefix = refl

-- a comment ends a word, and the first `*/` ends a comment, which another `/*` doesn't nest
comments : map config_tokens (codes "a/*b*/c" ∷ codes "a//b\nc" ∷ codes "a#b\nc" ∷ codes "/* /* */ a" ∷ codes "/**/a" ∷ codes "// a" ∷ codes "#" ∷ codes "/*/*/ a" ∷ [])
    ≡ map (λ ts. Ok ts) ((row_word 0 1 ∷ row_word 6 7 ∷ []) ∷ (row_word 0 1 ∷ row_word 5 6 ∷ []) ∷ (row_word 0 1 ∷ row_word 4 5 ∷ []) ∷ (row_word 9 10 ∷ []) ∷ (row_word 4 5 ∷ []) ∷ [] ∷ []
    ∷ (row_word 6 7 ∷ []) ∷ [])
comments = refl

-- in quotes there are no comments and no marks; `\"` is a quote of the string, and `\\` a backslash
strings : map config_tokens (codes "\"a;b//c\"" ∷ codes "\"a\\\"b\" c" ∷ codes "\"a\\\\\" c" ∷ codes "\"a\nb\"" ∷ codes "a\"b\"c" ∷ codes "\"\"" ∷ [])
    ≡ map (λ ts. Ok ts) ((config_token Quoted 0 8 ∷ []) ∷ (config_token Quoted 0 6 ∷ row_word 7 8 ∷ []) ∷ (config_token Quoted 0 5 ∷ row_word 6 7 ∷ []) ∷ (config_token Quoted 0 5 ∷ [])
    ∷ (row_word 0 1 ∷ config_token Quoted 1 4 ∷ row_word 4 5 ∷ []) ∷ (config_token Quoted 0 2 ∷ []) ∷ [])
strings = refl

-- what is not closed
open_ends : map config_tokens (codes "a /* b" ∷ codes "/*/" ∷ codes "a \"b;\n" ∷ codes "\"a\\\"" ∷ [])
    ≡ map (λ e. Err e) (error_between 2 3 OpenComment ∷ error_between 0 1 OpenComment ∷ error_between 2 3 OpenQuote ∷ error_between 0 1 OpenQuote ∷ [])
open_ends = refl

abbrev row_quoted : ℕ → ℕ → ConfigToken
row_quoted = config_token Quoted

abbrev row_events : List ℕ → List (Result ConfigEvent ConfigError)
row_events text = config_events text first_state

-- `options`, a zone, and what concerns no zones
whole : row_events (codes "options { directory \"/a\"; allow-query { any; }; };\nzone a.b { type master; file \"d\"; };\n")
    ≡ Ok OpenOptions ∷ Ok (Directory (row_quoted 20 24)) ∷ Ok CloseOptions ∷ Ok (OpenZone (record { name = row_word 56 59; class = None }))
    ∷ Ok (File (row_quoted 80 83)) ∷ Ok CloseZone ∷ Ok End ∷ []
whole = refl

-- a view with a zone and an include, in any case of letters
in_views : row_events (codes "VIEW v CH { Zone \"a\" In { file \"d\"; max-zone-ttl 1d; }; include \"i\"; };")
    ≡ Ok (OpenView (record { name = row_word 5 6; class = Some (row_word 7 9) })) ∷ Ok (OpenZone (record { name = row_quoted 17 20; class = Some (row_word 21 23) }))
    ∷ Ok (File (row_quoted 31 34)) ∷ Ok (MaxZoneTtl (row_word 49 51)) ∷ Ok CloseZone ∷ Ok (Include (row_quoted 64 67)) ∷ Ok CloseView ∷ Ok End ∷ []
in_views = refl

-- blocks of which nothing is read
passed : row_events (codes "controls { inet ::1 allow { a; } keys { \"k\"; }; }; acl x { !10/8; { b }; };") ≡ Ok End ∷ []
passed = refl

-- errors, with the word or the end of the clause that is rejected
rejected : map row_events (codes ";" ∷ codes "\"options\" { };" ∷ codes "acl x" ∷ codes "};" ∷ codes "acl x { {" ∷ codes "include a;" ∷ codes "include;" ∷ codes "include \"a\" b;" ∷ codes "include \"a\"" ∷ codes "zone \"a\";" ∷ codes "zone { };" ∷ codes "zone \"a\" in b {" ∷ codes "/* " ∷ [])
    ≡ map (λ e. Err e ∷ []) (error_between 0 1 EmptyStatement ∷ error_between 0 9 ExpectedWord ∷ error_between 5 5 MissingSemicolon ∷ error_between 0 1 UnexpectedClose
    ∷ error_between 0 3 OpenBlock ∷ error_between 8 9 UnquotedString ∷ error_between 7 8 MissingWord ∷ error_between 12 13 TrailingWord
    ∷ error_between 11 11 MissingSemicolon ∷ error_between 8 9 MissingBlock ∷ error_between 5 6 MissingWord ∷ error_between 14 15 TrailingWord
    ∷ error_between 0 1 OpenComment ∷ [])
rejected = refl

-- errors in a zone
abbrev in_a_zone : ConfigError → List (Result ConfigEvent ConfigError)
in_a_zone e = Ok (OpenZone (record { name = row_quoted 5 8; class = None })) ∷ Err e ∷ []

rejected_zones : map row_events (codes "zone \"a\" { type \"primary\"; };" ∷ codes "zone \"a\" { type hint; type hint; };" ∷ codes "zone \"a\" { file zones/d; };" ∷ codes "zone \"a\" { file d; };" ∷ codes "zone \"a\" {" ∷ codes "zone \"a\" { masterfile-format x; };" ∷ codes "zone \"a\" { check-names primary fail; };" ∷ codes "zone \"a\" { file \"d\" };" ∷ [])
    ≡ map in_a_zone (error_between 16 25 ExpectedWord ∷ error_between 22 26 Repeated ∷ error_between 16 21 UnquotedString
    ∷ error_between 16 17 UnquotedString ∷ error_between 0 4 OpenBlock ∷ error_between 29 30 UnknownValue ∷ error_between 31 35 TrailingWord
    ∷ error_between 20 21 MissingSemicolon ∷ [])
rejected_zones = refl

unknown_type : row_events (codes "zone \"a\" { type x; };") ≡ Ok (OpenZone (record { name = row_quoted 5 8; class = None })) ∷ Ok (UnknownType (row_word 16 17)) ∷ Ok CloseZone ∷ Ok End ∷ []
unknown_type = refl

no_semicolon : row_events (codes "zone \"a\" { } zone b { };") ≡ Ok (OpenZone (record { name = row_quoted 5 8; class = None })) ∷ Ok CloseZone ∷ Err (error_between 13 17 MissingSemicolon) ∷ []
no_semicolon = refl

-- a text that is included in a zone: it sets the file, and doesn't close the zone
abbrev state_in_zone : ConfigState
state_in_zone = state_inside (record first_state { block = Zone })

included : map (λ text. config_events text state_in_zone) (codes "file \"d\";" ∷ codes "};" ∷ codes "a { };" ∷ [])
    ≡ (Ok (File (row_quoted 5 8)) ∷ Ok End ∷ []) ∷ (Err (error_between 0 1 UnexpectedClose) ∷ []) ∷ (Ok End ∷ []) ∷ []
included = refl

-- what becomes of zones
abbrev row_zone : ZoneSettings
row_zone = record no_zone_settings { zone_type = Some Primary; has_file = true }

outcomes : map (λ z. zone_outcome z no_settings)
    (row_zone ∷ record row_zone { has_file = false } ∷ record row_zone { has_file = false; has_database = true } ∷ record row_zone { zone_type = None } ∷ record row_zone { zone_type = Some Secondary }
    ∷ record row_zone { zone_type = None; is_in_view = true } ∷ record row_zone { zone_type = None; has_template = true } ∷ [])
    ≡ Checked ∷ NoFile ∷ Omitted Database ∷ NoType ∷ Omitted OtherType ∷ Omitted InView ∷ Omitted Template ∷ []
outcomes = refl

-- the format of the zone, or that of the blocks around it
abbrev raw_outside : Settings
raw_outside = record no_settings { format = Some Raw }

formats : map (λ f. zone_outcome (record row_zone { settings = record no_settings { format = f } }) raw_outside) (None ∷ Some Text ∷ Some Map ∷ []) ≡ Omitted Format ∷ Checked ∷ Omitted Format ∷ []
formats = refl

-- zones that the server signs
abbrev row_policy : List ℕ → Settings
row_policy = with_signing DnssecPolicy no_settings

signed_zones : map signs_zones (no_settings ∷ row_policy (codes "default") ∷ with_signing InlineSigning no_settings (codes "YES") ∷ with_signing AutoDnssec no_settings (codes "maintain") ∷ [])
    ≡ false ∷ true ∷ true ∷ true ∷ []
signed_zones = refl

other_zones : map signs_zones (row_policy (codes "None") ∷ row_policy (codes "\"none\"") ∷ with_signing InlineSigning no_settings (codes "no") ∷ with_signing AutoDnssec no_settings (codes "off") ∷ [])
    ≡ false ∷ false ∷ false ∷ false ∷ []
other_zones = refl

-- a statement of a zone, in `options` that have another
signed_outside : map (λ s. signs_zones (settled s (row_policy (codes "default")))) (no_settings ∷ row_policy (codes "none") ∷ []) ≡ true ∷ false ∷ []
signed_outside = refl

-- paths that NSD 4.6 opens
path_of_two_labels : expanded_path (codes "Example.COM") (codes "%s-%1-%2-%3-%z-%y-%x-%%-%q-%S-%") ≡ codes "Example.COM-E-x-a-com-example-.-%%-%q-%S-%"
path_of_two_labels = refl

path_of_one_label : expanded_path (codes "c") (codes "%s-%1-%2-%3-%z-%y-%x") ≡ codes "c-c-.-.-c-.-."
path_of_one_label = refl

path_with_a_dot : expanded_path (codes "ab.d.") (codes "%s-%1-%2-%3-%z-%y-%x") ≡ codes "ab.d.-a-b-.-d-ab-."
path_with_a_dot = refl

path_of_the_root : expanded_path (codes ".") (codes "%s-%1-%2-%3-%z-%y-%x") ≡ codes ".-.-.-.-.-.-."
path_of_the_root = refl

path_in_capitals : expanded_path (codes "W.X.Yy.Zz") (codes "%s-%1-%2-%3-%z-%y-%x") ≡ codes "W.X.Yy.Zz-W-.-X-zz-yy-x"
path_in_capitals = refl

path_with_two_signs : expanded_path (codes "h") (codes "a%%sb%%z") ≡ codes "a%hb%h"
path_with_two_signs = refl

path_of_a_sign : expanded_path (codes "g") (codes "%") ≡ codes "%"
path_of_a_sign = refl

-- an nsd.conf: sections in any case of letters, several on a line, comments, and words with a hash sign or a backslash
abbrev row_nsd : List ℕ → List (Result NsdEvent ConfigError)
row_nsd text = nsd_events text sections.Other

nsd_zones : row_nsd (codes "server: zonesdir: \"/a\" # b\nZONE: name: c#d zonefile: e\\ f include-pattern: \"p\"#g\nkey: name: k")
    ≡ Ok (events.Section sections.Server) ∷ Ok (events.ZonesDir (row_quoted 18 22)) ∷ Ok (events.Section sections.Zone) ∷ Ok (events.Name (row_word 39 42)) ∷ Ok (events.ZoneFile (row_word 53 57))
    ∷ Ok (events.IncludePattern (row_quoted 75 78)) ∷ Ok (events.Section sections.Other) ∷ Ok events.End ∷ []
nsd_zones = refl

nsd_patterns : row_nsd (codes "pattern: name: p request-xfr: ::1 NOKEY include: x* zone: name: zonefile: y")
    ≡ Ok (events.Section sections.Pattern) ∷ Ok (events.Name (row_word 15 16)) ∷ Ok events.RequestXfr ∷ Ok (events.Include (row_word 49 51)) ∷ Ok (events.Section sections.Zone)
    ∷ Err (error_between 58 63 MissingWord) ∷ []
nsd_patterns = refl

nsd_ends : map row_nsd (codes "zone: \"a" ∷ codes "include:" ∷ codes "a:" ∷ [])
    ≡ (Ok (events.Section sections.Zone) ∷ Err (error_between 6 7 OpenQuote) ∷ []) ∷ (Err (error_between 0 8 MissingWord) ∷ []) ∷ (Ok events.End ∷ []) ∷ []
nsd_ends = refl

-- what the strings mean
abbrev row_string : List ℕ → List ℕ
row_string text = named_string text (row_quoted 0 (length text))

meant : map row_string (codes "\"a b\"" ∷ codes "\"\"" ∷ codes "\"a\\\"b\"" ∷ codes "\"a\\\\\"" ∷ codes "\"a\\b\\\\\\\"c\"" ∷ [])
    ≡ codes "a b" ∷ codes "" ∷ codes "a\"b" ∷ codes "a\\\\" ∷ codes "a\\b\\\\\"c" ∷ []
meant = refl
