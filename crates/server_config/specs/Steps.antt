-- What each clause of a named.conf means for zones.
use Rattle.std.specs.Prelude.{ℕ, zero, suc, length, [], ◌∷◌, ◌+◌, ◌-◌, Bool, ◌==◌, nat_lt, nat_le, if◌then◌else◌, List, Option, None, Some, Result, Ok, Err}
use Rattle.server_config.specs.Clauses.{clause_words, next_clause}
use Rattle.server_config.specs.Keywords.{keyword_of}
use Rattle.server_config.specs.Settings.{no_settings, no_zone_settings}
use Rattle.server_config.specs.Statements.{error_of_end, error_of_token, name_token, needed_word, or_error, pass, simple_step, step_to, word_token}
use Rattle.server_config.specs.Tokens.{config_token_text}
use Rattle.server_config.specs.declared.clause.Clause.{Clause}
use Rattle.server_config.specs.declared.clause.ClauseEnd.{ClauseEnd}
use Rattle.server_config.specs.declared.clause.ClauseEnd.TheVariants.{Closes, Ends, Last, Opens}
use Rattle.server_config.specs.declared.clause.ClauseWords.{ClauseWords}
use Rattle.server_config.specs.declared.error.ConfigError.{ConfigError}
use Rattle.server_config.specs.declared.error.ConfigErrorKind.TheVariants.{EmptyStatement, MissingSemicolon, OpenBlock, TooDeep, TrailingWord, UnexpectedClose}
use Rattle.server_config.specs.declared.keyword.Keyword.{Keyword}
use Rattle.server_config.specs.declared.keyword.Keyword.TheVariants as keywords
use Rattle.server_config.specs.declared.state.BlockName.{BlockName}
use Rattle.server_config.specs.declared.state.ConfigBlock.{ConfigBlock}
use Rattle.server_config.specs.declared.state.ConfigBlock.TheVariants.{Options, Outside, View, Zone, ZoneInView}
use Rattle.server_config.specs.declared.state.ConfigEvent.{ConfigEvent}
use Rattle.server_config.specs.declared.state.ConfigEvent.TheVariants.{CloseOptions, CloseView, CloseZone, End, OpenOptions, OpenView, OpenZone, Passed}
use Rattle.server_config.specs.declared.state.ConfigState.{ConfigState}
use Rattle.server_config.specs.declared.state.ConfigStep.{ConfigStep}
use Rattle.server_config.specs.declared.state.LastClause.{LastClause}
use Rattle.server_config.specs.declared.state.LastClause.TheVariants.{Block, PassedBlock, Statement}
use Rattle.server_config.specs.declared.token.ConfigToken.{ConfigToken}

-- the first word of the block that is open
abbrev pub open_word : ConfigBlock → ConfigState → ConfigToken
open_word Outside s = s.block_word
open_word Options s = s.block_word
open_word View s = s.view_word
open_word Zone s = s.block_word
open_word ZoneInView s = s.block_word

-- blocks differ by their number
abbrev pub block_number : ConfigBlock → ℕ
block_number Outside = 0
block_number Options = 1
block_number View = 2
block_number Zone = 3
block_number ZoneInView = 4

abbrev pub same_block : ConfigBlock → ConfigBlock → Bool
same_block a b = block_number a == block_number b

-- the name and the class of a view or a zone
abbrev pub block_name : Clause → ClauseWords → Result BlockName ConfigError
block_name c w =
    or_error (needed_word c w.second) (λ t. or_error (name_token t) (λ name.
    if nat_lt 3 c.words then error_of_end c TrailingWord else Ok (record { name = name; class = w.third })))

-- a block that is passed over
abbrev pub pass_block : ConfigState → Clause → ConfigToken → Result ConfigStep ConfigError
pass_block s c first = pass (record s { depth = 1; passed_word = first }) c

abbrev pub open_options : ConfigState → Clause → ClauseWords → ConfigToken → Result ConfigStep ConfigError
open_options s c w first =
    if nat_lt 1 c.words then error_of_end c TrailingWord
    else Ok (step_to OpenOptions (record s { block = Options; block_word = first }) c.next)

-- a view has settings of its own
abbrev pub open_view : ConfigState → Clause → ClauseWords → ConfigToken → Result ConfigStep ConfigError
open_view s c w first =
    or_error (block_name c w) (λ n. Ok (step_to (OpenView n) (record s { block = View; view_word = first; view = no_settings }) c.next))

-- and so has a zone
abbrev pub open_zone : ConfigBlock → ConfigState → Clause → ClauseWords → ConfigToken → Result ConfigStep ConfigError
open_zone block s c w first =
    or_error (block_name c w) (λ n. Ok (step_to (OpenZone n) (record s { block = block; block_word = first; zone = no_zone_settings }) c.next))

-- outside of blocks are `options`, views and zones
abbrev pub open_outside : Keyword → ConfigState → Clause → ClauseWords → ConfigToken → Result ConfigStep ConfigError
open_outside keywords.Options s c w first = open_options s c w first
open_outside keywords.View s c w first = open_view s c w first
open_outside keywords.Zone s c w first = open_zone Zone s c w first
open_outside keywords.Include s c w first = pass_block s c first
open_outside keywords.Directory s c w first = pass_block s c first
open_outside keywords.Format s c w first = pass_block s c first
open_outside keywords.MaxTtl s c w first = pass_block s c first
open_outside keywords.CheckNames s c w first = pass_block s c first
open_outside keywords.TypeOf s c w first = pass_block s c first
open_outside keywords.File s c w first = pass_block s c first
open_outside keywords.InView s c w first = pass_block s c first
open_outside keywords.Database s c w first = pass_block s c first
open_outside keywords.Template s c w first = pass_block s c first
open_outside keywords.InlineSigning s c w first = pass_block s c first
open_outside keywords.DnssecPolicy s c w first = pass_block s c first
open_outside keywords.AutoDnssec s c w first = pass_block s c first
open_outside keywords.Other s c w first = pass_block s c first

-- in a view are zones
abbrev pub open_in_view : Keyword → ConfigState → Clause → ClauseWords → ConfigToken → Result ConfigStep ConfigError
open_in_view keywords.Zone s c w first = open_zone ZoneInView s c w first
open_in_view keywords.Options s c w first = pass_block s c first
open_in_view keywords.View s c w first = pass_block s c first
open_in_view keywords.Include s c w first = pass_block s c first
open_in_view keywords.Directory s c w first = pass_block s c first
open_in_view keywords.Format s c w first = pass_block s c first
open_in_view keywords.MaxTtl s c w first = pass_block s c first
open_in_view keywords.CheckNames s c w first = pass_block s c first
open_in_view keywords.TypeOf s c w first = pass_block s c first
open_in_view keywords.File s c w first = pass_block s c first
open_in_view keywords.InView s c w first = pass_block s c first
open_in_view keywords.Database s c w first = pass_block s c first
open_in_view keywords.Template s c w first = pass_block s c first
open_in_view keywords.InlineSigning s c w first = pass_block s c first
open_in_view keywords.DnssecPolicy s c w first = pass_block s c first
open_in_view keywords.AutoDnssec s c w first = pass_block s c first
open_in_view keywords.Other s c w first = pass_block s c first

-- a statement with a block
abbrev pub open_in : ConfigBlock → Keyword → ConfigState → Clause → ClauseWords → ConfigToken → Result ConfigStep ConfigError
open_in Outside keyword s c w first = open_outside keyword s c w first
open_in View keyword s c w first = open_in_view keyword s c w first
open_in Options keyword s c w first = pass_block s c first
open_in Zone keyword s c w first = pass_block s c first
open_in ZoneInView keyword s c w first = pass_block s c first

-- a block that ends
abbrev pub closed_block : ConfigEvent → ConfigBlock → ConfigState → Clause → Result ConfigStep ConfigError
closed_block event block s c = Ok (step_to event (record s { block = block; last = Block }) c.next)

abbrev pub close_in : ConfigBlock → ConfigState → Clause → Result ConfigStep ConfigError
close_in Outside s c = error_of_end c UnexpectedClose
close_in Options s c = closed_block CloseOptions Outside s c
close_in View s c = closed_block CloseView Outside s c
close_in Zone s c = closed_block CloseZone Outside s c
close_in ZoneInView s c = closed_block CloseZone View s c

-- a closing brace, after a statement
abbrev pub close_step : ConfigState → Clause → Result ConfigStep ConfigError
close_step s c =
    if nat_lt 0 c.words then error_of_end c MissingSemicolon
    else (if same_block s.block s.outermost then error_of_end c UnexpectedClose else close_in s.block s c)

-- the end of the text, after a statement
abbrev pub end_step : ConfigState → Clause → Result ConfigStep ConfigError
end_step s c =
    if nat_lt 0 c.words then error_of_end c MissingSemicolon
    else (if same_block s.block s.outermost then Ok (step_to End s c.next) else error_of_token (open_word s.block s) OpenBlock)

-- a statement begins with a word
abbrev pub first_word : Clause → Option ConfigToken → Result ConfigToken ConfigError
first_word c None = error_of_end c EmptyStatement
first_word c (Some t) = word_token t

abbrev pub statement_in : ClauseEnd → List ℕ → ConfigState → Clause → ClauseWords → Result ConfigStep ConfigError
statement_in Ends text s c w = or_error (first_word c w.first) (λ t. simple_step (keyword_of (config_token_text text t)) text s c w t)
statement_in Opens text s c w = or_error (first_word c w.first) (λ t. open_in s.block (keyword_of (config_token_text text t)) s c w t)
statement_in Closes text s c w = close_step s c
statement_in Last text s c w = end_step s c

-- in a block that is passed over, braces are counted
abbrev pub deeper : ConfigState → Clause → Result ConfigStep ConfigError
deeper s c = if nat_le 255 s.depth then error_of_end c TooDeep else pass (record s { depth = s.depth + 1 }) c

abbrev pub less_deep : ConfigState → Clause → Result ConfigStep ConfigError
less_deep s c = pass (record s { depth = s.depth - 1; last = PassedBlock }) c

abbrev pub passed_in : ClauseEnd → ConfigState → Clause → Result ConfigStep ConfigError
passed_in Ends s c = pass s c
passed_in Opens s c = deeper s c
passed_in Closes s c = less_deep s c
passed_in Last s c = error_of_token s.passed_word OpenBlock

-- after such a block, up to the semicolon, words and blocks are passed over
abbrev pub after_passed : ClauseEnd → ConfigState → Clause → Result ConfigStep ConfigError
after_passed Ends s c = pass (record s { last = Statement }) c
after_passed Opens s c = pass (record s { depth = 1 }) c
after_passed Closes s c = error_of_end c MissingSemicolon
after_passed Last s c = error_of_end c MissingSemicolon

-- after `options`, a view or a zone comes a semicolon
abbrev pub before_word : Clause → Option ConfigToken → Result ConfigStep ConfigError
before_word c (Some t) = error_of_token t MissingSemicolon
before_word c None = error_of_end c MissingSemicolon

abbrev pub after_block : ClauseEnd → ConfigState → Clause → ClauseWords → Result ConfigStep ConfigError
after_block Ends s c w = if nat_lt 0 c.words then before_word c w.first else pass (record s { last = Statement }) c
after_block Opens s c w = before_word c w.first
after_block Closes s c w = before_word c w.first
after_block Last s c w = before_word c w.first

-- a clause of a block
abbrev pub step_after : LastClause → List ℕ → ConfigState → Clause → Result ConfigStep ConfigError
step_after Statement text s c = statement_in c.end text s c (clause_words text c)
step_after PassedBlock text s c = after_passed c.end s c
step_after Block text s c = after_block c.end s c (clause_words text c)

abbrev pub clause_step : List ℕ → ConfigState → Clause → Result ConfigStep ConfigError
clause_step text s c = if nat_lt 0 s.depth then passed_in c.end s c else step_after s.last text s c

-- what the clause at an offset means, and where the reader is after it
abbrev pub next_step : List ℕ → ℕ → ConfigState → Result ConfigStep ConfigError
next_step text from s = or_error (next_clause text from) (clause_step text s)

-- an event, and what comes after it: nothing after the end of the text
abbrev pub event_before : ConfigEvent → List (Result ConfigEvent ConfigError) → List (Result ConfigEvent ConfigError)
event_before Passed more = more
event_before End more = Ok End ∷ []
event_before event more = Ok event ∷ more

abbrev pub events_by : Result ConfigStep ConfigError → (ConfigStep → List (Result ConfigEvent ConfigError)) → List (Result ConfigEvent ConfigError)
events_by (Err e) more = Err e ∷ []
events_by (Ok step) more = event_before step.event (more step)

-- at most a number of events
abbrev pub events_among : ℕ → List ℕ → ℕ → ConfigState → List (Result ConfigEvent ConfigError)
events_among zero text from s = []
events_among (suc most) text from s = events_by (next_step text from s) (λ step. events_among most text step.next step.state)

-- what a text says of zones, in order, up to its end or the first error
abbrev pub config_events : List ℕ → ConfigState → List (Result ConfigEvent ConfigError)
config_events text s = events_among (length text + 1) text 0 s
