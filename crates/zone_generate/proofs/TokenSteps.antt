-- The tokens of a directive.
use Rattle.std.proofs.Common.{ℕ, zero, suc, ◌-◌, ◌≡◌, ◌<◌, ◌≤◌, ◌+◌, List, [], ◌∷◌, ◌++◌, length, refl, sym, ap, ◌∙◌, arith, get_or, take, drop}
use Rattle.std.specs.Prelude.{Result, Ok, Err, map}
use Rattle.std.proofs.lemmas.List.{append_assoc, drop_more, take_rest}
use Rattle.dns_symbol.specs.Characters.{space}
use Rattle.dns_lexer.specs.EntryTokens.{TokenSeen, token_seen}
use Rattle.dns_lexer.specs.declared.entry_tokens.EntryToken.{EntryToken}
use Rattle.zone_generate.specs.declared.error.GenerateError.{GenerateError}
use Rattle.zone_generate.specs.declared.part.Part.{Part}
use Rattle.zone_generate.specs.declared.range.GenerateRange.{GenerateRange}
use Rattle.zone_generate.specs.Directives.{rdata_parts, generate_after, generate_in, generate_of, generate_with, token_range, word_texts, words_before_type, words_text, words_up_to_type}
use Rattle.zone_generate.proofs.Appends.{lacks}

seen_dropped : (n : ℕ) (tokens : List EntryToken) → map token_seen (drop n tokens) ≡ drop n (map token_seen tokens)
seen_dropped zero tokens = refl
seen_dropped (suc n) [] = refl
seen_dropped (suc n) (t ∷ tokens) = seen_dropped n tokens

texts_taken : (n : ℕ) (tokens : List EntryToken) → word_texts (take n tokens) ≡ map (λ (t : TokenSeen). t.text) (take n (map token_seen tokens))
texts_taken zero tokens = refl
texts_taken (suc n) [] = refl
texts_taken (suc n) (t ∷ tokens) = ap (λ l. t.text.now ∷ l) (texts_taken n tokens)

-- the data of the tokens from the type on
pub data_left : (end last : ℕ) (tokens : List EntryToken) (count : ℕ) → count ≡ words_before_type (map token_seen tokens)
    → rdata_parts end last (map token_seen (take (length tokens - count) (drop count tokens))) ≡ rdata_parts end last (drop (words_before_type (map token_seen tokens)) (map token_seen tokens))
data_left end last tokens count is =
    ap (λ l. rdata_parts end last (map token_seen l)) (take_rest tokens count) ∙ ap (rdata_parts end last) (seen_dropped count tokens) ∙ ap (λ n. rdata_parts end last (drop n (map token_seen tokens))) is

pub words_left : (tokens : List EntryToken) (count : ℕ) → count ≡ words_before_type (map token_seen tokens) → word_texts (take (count + 1) tokens) ≡ words_up_to_type (map token_seen tokens)
words_left tokens count is = texts_taken (count + 1) tokens ∙ ap (λ n. map (λ (t : TokenSeen). t.text) (take (n + 1) (map token_seen tokens))) is

-- words that are appended, each after a blank
word_first : (words : List EntryToken) (i : ℕ) (d : EntryToken) → i < length words → words_text (word_texts (drop i words)) ≡ (space ∷ (get_or words i d).text.now) ++ words_text (word_texts (drop (i + 1) words))
word_first words i d lt = ap (λ l. words_text (word_texts l)) (drop_more words i d lt)

blank_first : (words : List EntryToken) (i : ℕ) → i < length words → (more : List ℕ) × (words_text (word_texts (drop i words)) ≡ space ∷ more)
blank_first [] i lt = absurd (omega (arith, lt))
blank_first (w ∷ words) zero lt = (w.text.now ++ words_text (word_texts words), refl)
blank_first (w ∷ words) (suc i) lt = blank_first words i (omega (arith, lt))

pub blank_lacks : (words : List EntryToken) (i : ℕ) → i < length words → (fits : ℕ) (old text out : List ℕ) → out ++ words_text (word_texts (drop i words)) ≡ old ++ text → fits < length out + 1 → fits < length old + length text
blank_lacks words i lt fits old text out is h =
    let first = blank_first words i lt in
    lacks fits old text out (space ∷ []) first.0 (ap (λ l. out ++ l) (sym first.1) ∙ is) h

module _ (words : List EntryToken) (i : ℕ) (d : EntryToken) (lt : i < length words) (out : List ℕ) where
  pub word_next : (one new all : List ℕ) → one ≡ out ++ (space ∷ []) → new ≡ one ++ (get_or words i d).text.now → out ++ words_text (word_texts (drop i words)) ≡ all → new ++ words_text (word_texts (drop (i + 1) words)) ≡ all
  word_next one new all first second is =
      let word = (get_or words i d).text.now in
      let more = words_text (word_texts (drop (i + 1) words)) in
      ap (λ l. l ++ more) (second ∙ ap (λ l. l ++ word) first ∙ append_assoc out (space ∷ []) word) ∙ append_assoc out (space ∷ word) more ∙ ap (λ l. out ++ l) (sym (word_first words i d lt)) ∙ is

  pub word_lacks : (fits : ℕ) (old text one : List ℕ) → one ≡ out ++ (space ∷ []) → out ++ words_text (word_texts (drop i words)) ≡ old ++ text → fits < length one + length (get_or words i d).text.now → fits < length old + length text
  word_lacks fits old text one first is h =
      let word = (get_or words i d).text.now in
      let more = words_text (word_texts (drop (i + 1) words)) in
      lacks fits old text one word more (ap (λ l. l ++ (word ++ more)) first ∙ append_assoc out (space ∷ []) (word ++ more) ∙ ap (λ l. out ++ l) (sym (word_first words i d lt)) ∙ is) h

-- a range that is rejected
pub range_refused : (most end : ℕ) (tokens : List EntryToken) (d : EntryToken) (e : GenerateError) → 2 ≤ length tokens → token_range most (token_seen (get_or tokens 0 d)) ≡ Err e
    → Err e ≡ generate_of most end (map token_seen tokens)
range_refused most end [] d e two is = absurd (omega (arith, two))
range_refused most end (r ∷ []) d e two is = absurd (omega (arith, two))
range_refused most end (r ∷ o ∷ tokens) d e two is = ap (λ x. generate_in end x (token_seen o) (map token_seen tokens)) (sym is)

module _ (range : GenerateRange) (owner : List Part) (tokens : List EntryToken) (count end : ℕ) (counted : count ≡ words_before_type (map token_seen tokens)) where
  pub data_made : (rdata : List Part) → rdata_parts end range.last (map token_seen (take (length tokens - count) (drop count tokens))) ≡ Ok rdata
      → Ok (record { range = range; owner = owner; words = word_texts (take (count + 1) tokens); rdata = rdata }) ≡ generate_after end range (Ok owner) (map token_seen tokens)
  data_made rdata is =
      ap (λ w. generate_with range owner w (Ok rdata)) (words_left tokens count counted)
      ∙ ap (generate_with range owner (words_up_to_type (map token_seen tokens))) (sym is ∙ data_left end range.last tokens count counted)

  pub data_refused : (e : GenerateError) → rdata_parts end range.last (map token_seen (take (length tokens - count) (drop count tokens))) ≡ Err e
      → Err e ≡ generate_after end range (Ok owner) (map token_seen tokens)
  data_refused e is = ap (generate_with range owner (words_up_to_type (map token_seen tokens))) (sym is ∙ data_left end range.last tokens count counted)
