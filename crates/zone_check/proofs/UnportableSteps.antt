-- Words that not every server reads, one after another.
use Rattle.std.proofs.Common.{◌≡◌, ◌≢◌, ℕ, ◌+◌, ◌<◌, ◌≤◌, ◌⊎◌, inl, inr, Bool, true, false, List, [], ◌∷◌, ◌++◌, Option, Some, None, ◌==◌, eqb-true, map, length, drop, take, get_or, slice_get, option_to_list, if◌then◌else◌, Result, refl, sym, ap, ◌∙◌, subst, append_assoc, drop_of_length-le, arith}
use Rattle.std.specs.Prelude.{◌&&◌, not, nat_eq, MatchOption}
use Rattle.std.specs.Char.{to_ascii_lowercase}
use Rattle.std.specs.Cmp.Lexicographic.{pointwise, other_text}
use Rattle.std.proofs.Math.Bool.{and-false}
use Rattle.std.proofs.lemmas.List.{append-nil, drop_more}
use Rattle.dns_octets.specs.Lowered.{lowered}
use Rattle.dns_lexer.specs.EntryTokens.{TokenSeen, token_seen}
use Rattle.dns_lexer.specs.declared.entry_tokens.EntryToken.{EntryToken}
use Rattle.rdata_values.specs.Registry.{row_code, IsNumbered}
use Rattle.rdata_values.specs.Types.{SpellsType, is_portable, type_prefix, type_rows}
use Rattle.rdata_values.specs.declared.error.ErrorKind.{ErrorKind}
use Rattle.rdata_values.specs.declared.types.RecordType.{RecordType}
use Rattle.zone_reader.specs.Directives.{directive_of}
use Rattle.zone_reader.specs.declared.directive.Directive.{Directive}
use Rattle.zone_check.specs.declared.finding.EntryFinding.{EntryFinding}
use Rattle.zone_check.specs.declared.unportable.WordUse.{WordUse}
use Rattle.zone_check.specs.DirectiveFindings.{directive_named_by}
use Rattle.zone_check.specs.NameFindings.{is_generic_token}
use Rattle.zone_check.specs.Unportable.{begins_type, is_rare_code, is_rare_type, unportable_directive, unportable_in_directive, unportable_name, unportable_word, unportable_words, word_use}
use Rattle.zone_check.proofs.FindingSteps.{some_tokens}
use Rattle.zone_check.proofs.TokenLists.{seen_at, seen_none}

pub all_found : (found rest all : List EntryFinding) → rest ≡ [] → found ++ rest ≡ all → found ≡ all
all_found found rest all none is = sym (append-nil found) ∙ ap (λ l. found ++ l) (sym none) ∙ is

-- ---- the words of RDATA

module _ (reported : Bool) (rtype : RecordType) (words : List EntryToken) where
  -- the findings about the words from the one with an index on
  abbrev pub rest_of : ℕ → List EntryFinding
  rest_of i = unportable_words reported rtype i (map token_seen (drop i words))

  module _ (i : ℕ) (d : EntryToken) (lt : i < length words) where
    abbrev seen : TokenSeen
    seen = token_seen (get_or words i d)

    at_word : rest_of i ≡ unportable_words reported rtype i (seen ∷ map token_seen (drop (i + 1) words))
    at_word = ap (λ l. unportable_words reported rtype i (map token_seen l)) (drop_more words i d lt)

    abbrev by_mark : Bool → List EntryFinding
    by_mark b = if b then [] else option_to_list (unportable_word (word_use rtype i) reported seen) ++ rest_of (i + 1)

    pub none_in_generic : is_generic_token seen ≡ true → rest_of i ≡ []
    none_in_generic h = at_word ∙ ap by_mark h

    pub next_found : (u : WordUse) (f : Option EntryFinding) (found new all : List EntryFinding) → is_generic_token seen ≡ false → u ≡ word_use rtype i
        → f ≡ unportable_word u reported seen → new ≡ found ++ option_to_list f → found ++ rest_of i ≡ all → new ++ rest_of (i + 1) ≡ all
    next_found u f found new all plain used is pushed before =
        let own : Option EntryFinding = unportable_word (word_use rtype i) reported seen in
        ap (λ l. l ++ rest_of (i + 1)) pushed
        ∙ ap (λ o. (found ++ option_to_list o) ++ rest_of (i + 1)) (is ∙ ap (λ x. unportable_word x reported seen) used)
        ∙ append_assoc found (option_to_list own) (rest_of (i + 1)) ∙ ap (λ l. found ++ l) (sym (at_word ∙ ap by_mark plain)) ∙ before

  pub none_left : (i : ℕ) → length words ≤ i → rest_of i ≡ []
  none_left i end = ap (λ l. unportable_words reported rtype i (map token_seen l)) (drop_of_length-le words end)

-- ---- names of types

last_of_two : (x y : Bool) → false ≡ (x && (y && false))
last_of_two true true = refl
last_of_two true false = refl
last_of_two false y = refl

last_of_three : (x y z : Bool) → false ≡ (x && (y && (z && false)))
last_of_three true y z = last_of_two y z
last_of_three false y z = refl

-- fewer than four octets
short_text : (text : List ℕ) → length text < 4 → false ≡ begins_type text
short_text [] h = refl
short_text (a ∷ []) h = sym (and-false _)
short_text (a ∷ b ∷ []) h = last_of_two (nat_eq (to_ascii_lowercase a) 116) (nat_eq (to_ascii_lowercase b) 121)
short_text (a ∷ b ∷ c ∷ []) h = last_of_three (nat_eq (to_ascii_lowercase a) 116) (nat_eq (to_ascii_lowercase b) 121) (nat_eq (to_ascii_lowercase c) 112)
short_text (a ∷ b ∷ c ∷ d ∷ cs) h = absurd (omega (arith, h))

pub without_front : (text : List ℕ) → (4 < 0) ⊎ (length text < 4) → false ≡ begins_type text
without_front text (inl h) = absurd (omega (arith, h))
without_front text (inr h) = short_text text h

pub numbered : (text : List ℕ) (b : Bool) → b ≡ begins_type text → b ≡ true → false ≡ is_rare_type text
numbered text b is h = sym (ap (λ x. not x && is_rare_code (row_code type_rows text)) (sym is ∙ h))

rare_by : (text : List ℕ) (o : Option ℕ) → begins_type text ≡ false → is_rare_code (row_code type_rows text) ≡ is_rare_code o → is_rare_code o ≡ is_rare_type text
rare_by text o h e = sym (ap (λ x. not x && is_rare_code (row_code type_rows text)) h ∙ e)

pub named : (text : List ℕ) (b : Bool) (r : RecordType) (q : Bool) → b ≡ begins_type text → b ≡ false → SpellsType text r → q ≡ is_portable r → not q ≡ is_rare_type text
named text b r q is h spells portable = by (row_code type_rows text) refl spells
  where
    by : (o : Option ℕ) → row_code type_rows text ≡ o → MatchOption o (IsNumbered type_prefix 65535 text r) (λ c. r ≡ c) → not q ≡ is_rare_type text
    by None e s = absurd (other_text (lowered (take 4 text)) (lowered type_prefix) (sym (sym is ∙ h)) s.0)
    by (Some c) e s = ap not (portable ∙ ap is_portable s) ∙ rare_by text (Some c) (sym is ∙ h) (ap is_rare_code e)

pub unnamed : (text : List ℕ) (b : Bool) → b ≡ begins_type text → b ≡ false → ((v : RecordType) → SpellsType text v → ⊥) → false ≡ is_rare_type text
unnamed text b is h none = by (row_code type_rows text) refl
  where
    by : (o : Option ℕ) → row_code type_rows text ≡ o → false ≡ is_rare_type text
    by None e = rare_by text None (sym is ∙ h) (ap is_rare_code e)
    by (Some c) e = absurd (none c (subst (λ o. MatchOption o (IsNumbered type_prefix 65535 text c) (λ x. c ≡ x)) (sym e) refl))

-- ---- names

pub no_name : (reported : Bool) (tokens : List EntryToken) (i : ℕ) → length tokens ≤ i → None ≡ unportable_name reported (slice_get (map token_seen tokens) i)
no_name reported tokens i end = sym (ap (unportable_name reported) (seen_none tokens i end))

pub one_name : (reported : Bool) (tokens : List EntryToken) (i : ℕ) (d : EntryToken) (f : Option EntryFinding) → i < length tokens
    → f ≡ unportable_name reported (Some (token_seen (get_or tokens i d))) → f ≡ unportable_name reported (slice_get (map token_seen tokens) i)
one_name reported tokens i d f lt is = is ∙ sym (ap (unportable_name reported) (seen_at tokens i d lt))

pub no_words : (reported : Bool) (tokens : List EntryToken) → (length tokens == 0) ≡ true → None ≡ unportable_directive reported (map token_seen tokens)
no_words reported [] h = refl
no_words reported (t ∷ tokens) h = absurd (let e = eqb-true (length (t ∷ tokens)) 0 h in omega (arith, e))

pub by_word : (reported : Bool) (tokens : List EntryToken) (d : EntryToken) (x : Option (Result Directive ErrorKind)) (f : Option EntryFinding) → (length tokens == 0) ≡ false
    → x ≡ directive_of (token_seen (get_or tokens 0 d)) → f ≡ unportable_in_directive reported x (map token_seen tokens) → f ≡ unportable_directive reported (map token_seen tokens)
by_word reported tokens d x f some is h =
    h ∙ ap (λ y. unportable_in_directive reported y (map token_seen tokens)) (is ∙ sym (ap directive_named_by (seen_at tokens 0 d (some_tokens (length tokens) some))))
