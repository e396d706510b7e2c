-- The output of the program for tokens.
use Rattle.std.proofs.Common.{ℕ, zero, suc, ◌+◌, ◌≡◌, ◌<◌, ◌≤◌, ◌∙◌, List, [], ◌∷◌, ◌++◌, length, drop, add-one, arith, refl, sym, subst, ap, inl, inr, ⊎_elim, None, Result, Ok, Err}
use Rattle.std.specs.Prelude.{Vec, IsOk, MatchResult, Option, Some, codes, encode_utf8_all, map}
use Rattle.std.specs.List.{concat}
use Rattle.dns_codec.specs.Base.{base16, encoded}
use Rattle.dns_symbol.specs.Characters.{line_feed}
use Rattle.std.specs.Fmt.{WritesInCalls, decimal}
use Rattle.std.proofs.Output.{writes_in_calls_append, writes_in_calls_nil}
use Rattle.dns_octets.specs.Room.{Room, of_memory, within}
use Rattle.dns_symbol.specs.declared.symbol.Symbol.{Symbol as PlainSymbol}
use Rattle.dns_symbol.specs.declared.error.BadSymbol.{BadSymbol}
use Rattle.dns_symbol.specs.declared.error.SymbolCharsError.{SymbolCharsError}
use Rattle.dns_symbol.specs.Symbol.{chars_error_text, octet_of}
use Rattle.dns_symbol.specs.Text.{SymbolsOf}
use Rattle.dns_wire.specs.Printed.{dotted_text}
use Rattle.dns_name.specs.Reading.{ReadsName}
use Rattle.dns_name.specs.Scanned.{ReadsUncertain}
use Rattle.dns_name.specs.Uncertain.{labels_of}
use Rattle.dns_name.specs.declared.name.UncertainName.{UncertainName}
use Rattle.dns_name.specs.declared.name.UncertainName.TheVariants.{Absolute, Relative}
use Rattle.dns_name.specs.declared.name.error.FromStrError.{FromStrError}
use Rattle.dns_name.specs.declared.name.error.FromStrError.TheVariants.{Symbol, BadOctet, BinaryLabel, EmptyLabel, LongLabel, LongName, ShortBuf}
use Rattle.dns_scan.specs.Answers.{AllOctetsFit, FirstFault, IsSymbolFault}
use Rattle.dns_scan.specs.Asks.{Builds}
use Rattle.dns_symbol.specs.Cause.{Cause, custom_text, short_buf, IsCause}
use Rattle.dns_scan.specs.Numbers.{ScannedNumber}
use Rattle.dns_scan.specs.Octets.{unquoted_token}
use Rattle.dns_scan.specs.Steps.{HasStepOctets, bad_or, step_octet}
use Rattle.dns_scan.specs.Tokens.{Token}
use Rattle.dns_scan.proofs.Answered.{builds_read, all_given_in, first_fault_in}
use Rattle.dnstext_lib.specs.declared.program.ScanKind.{ScanKind}
use Rattle.dnstext_lib.specs.declared.program.RunError.{RunError}
use Rattle.dnstext_lib.specs.declared.program.RunError.TheVariants.{Refused, WriteFailed}
use Rattle.dns_iter.specs.Name.{AnswersName, ReadsNames, ReadsToken, invalid_name}
use Rattle.dns_scan.specs.Numbers.{by_cause}
use Rattle.dnstext_lib.specs.Program.{BeginsWithOctet, Stops, StringPrints, StringRefused, StringAllocates, NumberPrints, NumberRefused, NamePrints, LineBy, LineWritten, LinesWritten, OctetsLine}

-- what a text reads as, over octets of another type: a name is its labels
abbrev recast : {O : Type 0} (P : Type 0) → Result (UncertainName O) FromStrError → Result (UncertainName P) FromStrError
recast P (Ok (Absolute name)) = Ok (Absolute name)
recast P (Ok (Relative name)) = Ok (Relative name)
recast P (Err e) = Err e

recast_reads : {O : Type 0} (P : Type 0) (room : Room) (text : List ℕ) (read : Result (UncertainName O) FromStrError)
    → ReadsName room text read → ReadsName room text (recast P read)
recast_reads P room text (Ok (Absolute name)) h = h
recast_reads P room text (Ok (Relative name)) h = h
recast_reads P room text (Err (Symbol e)) h = h
recast_reads P room text (Err BadOctet) h = h
recast_reads P room text (Err BinaryLabel) h = h
recast_reads P room text (Err EmptyLabel) h = h
recast_reads P room text (Err LongLabel) h = h
recast_reads P room text (Err LongName) h = h
recast_reads P room text (Err ShortBuf) h = h

recast_answers : {O : Type 0} (P : Type 0) (room : Room) (read : Result (UncertainName O) FromStrError) (r : Result (List (List ℕ)) Cause)
    → AnswersName (λ why. why) room read r → AnswersName (λ why. why) room (recast P read) r
recast_answers P room (Ok (Absolute name)) r h = h
recast_answers P room (Ok (Relative name)) r h = h
recast_answers P room (Err (Symbol e)) r h = h
recast_answers P room (Err BadOctet) r h = h
recast_answers P room (Err BinaryLabel) r h = h
recast_answers P room (Err EmptyLabel) r h = h
recast_answers P room (Err LongLabel) r h = h
recast_answers P room (Err LongName) r h = h
recast_answers P room (Err ShortBuf) r h = h

-- a symbol whose octets are built has one
has_octet : (q : Result ℕ BadSymbol) (p : List ℕ) → bad_or (λ o. o ∷ []) q ≡ Ok p → IsOk q
has_octet (Ok o) p is = refl
has_octet (Err why) p is = cc

-- if the octets of symbols don't fit, the first one has an octet
short_begins : (room : Room) (symbols : List PlainSymbol) (error : Option SymbolCharsError) (why : Cause) → FirstFault step_octet room symbols error why → why ≡ short_buf → BeginsWithOctet symbols
short_begins room symbols error why h is = subst BeginsWithOctet (sym h.whole) (by h.front h.rest h.parts error h.gives h.fault)
  where
    later : (x : PlainSymbol) (q : Result ℕ BadSymbol) (count : ℕ) → octet_of x ≡ q
        → MatchResult (bad_or (λ o. o ∷ []) q) (λ o. (room.fits < count + length o) × (why ≡ short_buf)) (λ text. why ≡ custom_text text) → IsOk (octet_of x)
    later x (Ok o) count at k = subst (λ (r : Result ℕ BadSymbol). IsOk r) (sym at) refl
    later x (Err bad) count at k = let no : short_buf ≡ custom_text (codes "bad symbol") = sym is ∙ k in cc

    by : (front rest : List PlainSymbol) (parts : List (List ℕ)) (error : Option SymbolCharsError) → map step_octet front ≡ map Ok parts
        → IsSymbolFault step_octet room (length (concat parts)) rest error why → BeginsWithOctet (front ++ rest)
    by (x ∷ xs) rest [] error gives fault = cc
    by (x ∷ xs) rest (p ∷ ps) error gives fault = let one : step_octet x ≡ Ok p = cc in has_octet (octet_of x) p one
    by [] [] parts None gives fault = absurd fault
    by [] [] parts (Some e) gives fault = let no : short_buf ≡ custom_text (chars_error_text e) = sym is ∙ fault in cc
    by [] (x ∷ xs) parts error gives fault = later x (octet_of x) (length (concat parts)) refl fault

module _ {E : Type 0} (cause : E → Cause) where
  -- a character string that was scanned prints as the token's value
  pub charstr_prints : (room : Room) (t : Token) (s : List ℕ) → Builds cause (HasStepOctets cause (within 255 room) step_octet) (λ s. s) t (Ok s) → StringPrints t (unquoted_token s)
  charstr_prints room t s h =
      let read = builds_read cause step_octet (within 255 room) (λ s. s) t (Ok s) h in (
        read.0,
        subst (λ e. SymbolsOf t read.0 e) read.3.ends read.2,
        (
          s,
          all_given_in step_octet (within 255 room) 255 (omega arith) read.0 None s
              (subst (λ e. AllOctetsFit step_octet (within 255 room) read.0 e s) read.3.ends read.3),
          refl,
        ),
      )

  pub charstr_stops : (room : Room) (t : Token) (e : E) → Builds cause (HasStepOctets cause (within 255 room) step_octet) (λ s. s) t (Err e) → Stops StringRefused StringAllocates t (cause e)
  charstr_stops room t e h =
      let read = builds_read cause step_octet (within 255 room) (λ s. s) t (Err e) h in
      ⊎_elim
      (λ k. inl (read.0, read.1, read.2, k))
      (λ k. inr (k, (read.0, read.1, read.2, short_begins (within 255 room) read.0 read.1 (cause e) read.3 k)))
      (first_fault_in step_octet (within 255 room) 255 (omega arith) read.0 read.1 (cause e) read.3)

  -- a number that was scanned prints as the token's value
  pub number_prints : (limit : ℕ) (t : Token) (v : ℕ) → ScannedNumber cause limit t (Ok v) → NumberPrints limit t (decimal v)
  number_prints limit t v h = (h.symbols, subst (λ e. SymbolsOf t h.symbols e) h.reads.1 h.read, (v, h.reads.0, refl))

  pub number_refused : (limit : ℕ) (t : Token) (e : E) → ScannedNumber cause limit t (Err e) → NumberRefused limit t (cause e)
  number_refused limit t e h = (h.symbols, h.error, h.read, h.reads)

  -- a name that was scanned prints as the token's value
  pub name_prints : {O : Type 0} (reads : Token → Result (List (List ℕ)) E → Type 0) → ReadsNames cause reads → (t : Token) (name : UncertainName O)
      → ReadsUncertain (reads t) (Ok name) → NamePrints t (encode_utf8_all (dotted_text (labels_of name)))
  name_prints reads so t (Absolute name) h = (name, so t (Ok name) h, refl)
  name_prints reads so t (Relative name) h = absurd h

  -- an error is the same with its cause in its place
  same_cause : {V : Type 0} (r : Result V E) (why : Cause) → IsCause cause r why → IsCause (λ c. c) (by_cause cause r) why
  same_cause (Ok v) why h = absurd h
  same_cause (Err e) why h = h

  answers_by_cause : {O : Type 0} (room : Room) (read : Result (UncertainName O) FromStrError) (r : Result (List (List ℕ)) E)
      → AnswersName cause room read r → AnswersName (λ c. c) room read (by_cause cause r)
  answers_by_cause room (Ok (Absolute name)) r h = ap (by_cause cause) h
  answers_by_cause room (Ok (Relative name)) r h =
      ⊎_elim
      (λ k. inl (k.0, same_cause r invalid_name k.1))
      (λ k. inr (⊎_elim (λ m. inl (m.0, ap (by_cause cause) m.1, m.2)) (λ m. inr (m.0, m.1, same_cause r invalid_name m.2)) k))
      h
  answers_by_cause room (Err (Symbol e)) r h = same_cause r (custom_text (chars_error_text e)) h
  answers_by_cause room (Err BadOctet) r h = same_cause r invalid_name h
  answers_by_cause room (Err BinaryLabel) r h = same_cause r invalid_name h
  answers_by_cause room (Err EmptyLabel) r h = same_cause r invalid_name h
  answers_by_cause room (Err LongLabel) r h = same_cause r invalid_name h
  answers_by_cause room (Err LongName) r h = same_cause r invalid_name h
  answers_by_cause room (Err ShortBuf) r h = same_cause r invalid_name h

  pub reads_names : {A : Type 0} → ReadsNames cause (ReadsToken (Vec ℕ A) cause of_memory)
  reads_names t r h =
      (recast _ h.0, recast_reads _ of_memory t h.0 h.1, recast_answers _ of_memory h.0 (by_cause cause r) (answers_by_cause of_memory h.0 r h.2))

  -- a line more, before the lines of others
  pub lines_more : {O : Type 0} (took : O → List ℕ → O → Type 0) (kind : ScanKind) (t : Token) (ts : List Token) (o m p : O) (r : Result (Unit {0}) (RunError E))
      → LineWritten cause took kind t o (Ok tt) m → LinesWritten cause took kind ts m r p → LinesWritten cause took kind (t ∷ ts) o r p
  lines_more took kind t ts o m p (Ok u) line more =
      ((line.0 ++ 10 ∷ []) ++ more.0, inl (line.0, more.0, line.1, refl, more.1), writes_in_calls_append took o _ m _ p line.2 more.2)
  lines_more took kind t ts o m p (Err (Refused e)) line more =
      ((line.0 ++ 10 ∷ []) ++ more.0, inl (line.0, more.0, line.1, refl, more.1), writes_in_calls_append took o _ m _ p line.2 more.2)
  lines_more took kind t ts o m p (Err WriteFailed) line more = (line.0, line.1)

  -- no lines, and a token that is rejected at once
  pub lines_none : {O : Type 0} (took : O → List ℕ → O → Type 0) (kind : ScanKind) (o : O) → LinesWritten cause took kind [] o (Ok tt) o
  lines_none took kind o = ([], (refl, refl), writes_in_calls_nil took o)

  pub lines_stop : {O : Type 0} (took : O → List ℕ → O → Type 0) (kind : ScanKind) (t : Token) (ts : List Token) (o p : O) (stop : RunError E)
      → LineWritten cause took kind t o (Err stop) p → LinesWritten cause took kind (t ∷ ts) o (Err stop) p
  lines_stop took kind t ts o p (Refused e) h = ([], inr (cause e, h.0, refl, refl), subst (λ x. WritesInCalls took o [] x) (sym h.1) (writes_in_calls_nil took o))
  lines_stop took kind t ts o p WriteFailed h = h

-- the element at an index, and those after it
pub drop_at : {A : Type 0} (xs : List A) (i : ℕ) → i < length xs → (x : A) × (drop i xs ≡ x ∷ drop (i + 1) xs)
drop_at [] i h = absurd (omega arith)
drop_at (x ∷ xs) zero h = (x, refl)
drop_at (x ∷ xs) (suc i) h = let more = drop_at xs i (omega arith) in (more.0, more.1 ∙ ap (λ l. more.0 ∷ l) (rw (add-one, add-one) refl))

pub drop_all : {A : Type 0} (xs : List A) (i : ℕ) → length xs ≤ i → drop i xs ≡ []
drop_all [] zero h = refl
drop_all [] (suc i) h = refl
drop_all (x ∷ xs) zero h = absurd (omega arith)
drop_all (x ∷ xs) (suc i) h = drop_all xs i (omega arith)

-- a line of what a token prints as, if the line is written or the sink failed
pub line_by : {E O : Type 0} (cause : E → Cause) (took : O → List ℕ → O → Type 0) (prints : Token → List ℕ → Type 0) (refused : Token → Cause → Type 0) (token : Token) (text : List ℕ) (o p : O)
    (r : Result (Unit {0}) (RunError E)) → prints token text → MatchResult r (λ _. WritesInCalls took o (text ++ line_feed ∷ []) p) (λ stop. stop ≡ WriteFailed) → LineBy cause took prints refused token o r p
line_by cause took prints refused token text o p (Ok u) has line = (text, has, line)
line_by cause took prints refused token text o p (Err stop) has is = subst (λ s. LineBy cause took prints refused token o (Err s) p) (sym is) (text, has)

pub octets_line : {E O : Type 0} (took : O → List ℕ → O → Type 0) (run : Result (List ℕ) E → Type 0) (octets : List ℕ) (o p : O) (r : Result (Unit {0}) (RunError E))
    → run (Ok octets) → MatchResult r (λ _. WritesInCalls took o (encoded base16 octets ++ line_feed ∷ []) p) (λ stop. stop ≡ WriteFailed) → OctetsLine took run o r p
octets_line took run octets o p (Ok u) has line = (octets, has, line)
octets_line took run octets o p (Err stop) has is = subst (λ s. OctetsLine took run o (Err s) p) (sym is) (octets, has)
