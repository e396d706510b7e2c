-- Directives: entries that begin with a dollar sign.
use Rattle.std.specs.Prelude.{ℕ, ◌≡◌, ◌==◌, Bool, true, false, if◌then◌else◌, List, [], ◌∷◌, drop, codes, Option, Some, None, Result, Ok, Err}
use Rattle.std.specs.Str.{bytes_eq}
use Rattle.rdata_fields.specs.RecordErrors.{IsErrorAt}
use Rattle.rdata_fields.specs.Source.{next_place}
use Rattle.rdata_fields.specs.declared.record_error.RecordError.{RecordError}
use Rattle.rdata_values.specs.declared.error.ErrorKind.{ErrorKind}
use Rattle.rdata_values.specs.declared.error.ErrorKind.TheVariants.{UnknownDirective}
use Rattle.dns_octets.specs.Lowered.{lowered}
use Rattle.rdata_tokens.specs.PrintedNames.{dollar}
use Rattle.dns_lexer.specs.EntryTokens.{TokenSeen}
use Rattle.zone_reader.specs.declared.directive.Directive.{Directive}
use Rattle.zone_reader.specs.declared.directive.Directive.TheVariants.{Origin, Ttl, Include, Generate}

-- the directive that a word names, by its lowercase letters; or why it is rejected
abbrev pub directive_named : List ℕ → Result Directive ErrorKind
directive_named small =
    if bytes_eq small (codes "$origin") then Ok Origin
    else (if bytes_eq small (codes "$ttl") then Ok Ttl
    else (if bytes_eq small (codes "$include") then Ok Include
    else (if bytes_eq small (codes "$generate") then Ok Generate else Err UnknownDirective)))

abbrev pub directive_in : List ℕ → Result Directive ErrorKind
directive_in word = directive_named (lowered word)

-- a word that begins with a dollar sign names a directive, or is rejected as one
abbrev pub directive_of_word : List ℕ → Option (Result Directive ErrorKind)
directive_of_word [] = None
directive_of_word (c ∷ cs) = if c == dollar then Some (directive_in (c ∷ cs)) else None

abbrev pub directive_of : TokenSeen → Option (Result Directive ErrorKind)
directive_of t = if t.is_quoted then None else directive_of_word t.text

-- the directive with which an entry begins, unless it begins with a blank
abbrev pub first_directive : Bool → List TokenSeen → Option (Result Directive ErrorKind)
first_directive true tokens = None
first_directive false [] = None
first_directive false (t ∷ ts) = directive_of t

-- the directive is taken; or it is rejected at its offset, and not taken
abbrev pub ParsesDirective : Bool → ℕ → List TokenSeen → Result (Option Directive) RecordError → List TokenSeen → Type 0
ParsesDirective blank end tokens (Ok None) left = (left ≡ tokens) × (first_directive blank tokens ≡ None)
ParsesDirective blank end tokens (Ok (Some d)) left = (left ≡ drop 1 tokens) × (first_directive blank tokens ≡ Some (Ok d))
ParsesDirective blank end tokens (Err e) left = (left ≡ tokens) × (first_directive blank tokens ≡ Some (Err e.kind)) × IsErrorAt (next_place tokens end) e
