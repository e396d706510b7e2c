-- A source of the contents of tokens yields the contents of these tokens.
use Rattle.std.proofs.Common.{◌≡◌, ◌≤◌, ℕ, zero, suc, List, [], ◌∷◌, length, refl, sym, ◌∙◌, ap, subst, inl, inr, ⊎_elim, Some, None, Vec, String}
use Rattle.std.specs.Prelude.{option_map, slice_get}
use Rattle.std.proofs.lemmas.Option.{slice_get-map, slice_get_past}
use Rattle.std.specs.List.{flat_map, AllByRecursion}
use Rattle.std.specs.Iterator.{AlwaysYields}
use Rattle.dns_scan.specs.Tokens.{Token}
use Rattle.dns_symbol.specs.Symbol.{bytes}
use Rattle.dns_symbol.specs.Text.{SymbolsOf}
use Rattle.dns_lexer.specs.Token.{IsWord, IsQuote, IsToken}
use Rattle.dns_lexer.specs.Answer.{texts, entries_of}
use Rattle.dns_lexer.specs.Splitting.{Entries, Splits}
use Rattle.dns_lexer.proofs.Complete.{one_way}
use Rattle.dns_lexer.proofs.Entries.{splits_into_tokens}
use Rattle.dns_lexer.proofs.Content.{word_first, quote_first, between_quotes, word_symbols, quote_symbols}
use Rattle.dns_scan.specs.Join.{IsSymbols}
use Rattle.dns_iter.specs.Contents.{HasContent, HaveContents, HoldsAt, HoldsOnly, content_next}

-- what is yielded of a token's text
pub content_given : (spelled token given : List ℕ) → spelled ≡ token → ((w : IsWord spelled) → given ≡ spelled) → ((q : IsQuote spelled) → given ≡ flat_map bytes q.symbols)
    → (content : List ℕ) → HasContent token content → given ≡ content
content_given spelled token given is word quote content h =
    ⊎_elim (λ k. word k.0 ∙ sym k.1) (λ k. quote k.0 ∙ sym k.1) (subst (λ t. HasContent t content) (sym is) h)

module _ {S : Type 0} (texts : S → List Token) where
  pub contents_come : (tokens : List Token) (contents : List (List ℕ)) (s : S) → texts s ≡ tokens → HaveContents tokens contents → AlwaysYields (content_next texts) (λ t. t.now) s contents
  contents_come [] [] s is z = λ x j k. let none : k.0 ∷ texts j ≡ [] = sym k.1 ∙ is in cc
  contents_come [] (c ∷ cs) s is z = absurd z
  contents_come (t ∷ ts) [] s is z = absurd z
  contents_come (t ∷ ts) (c ∷ cs) s is z = (
    λ j k. let none : t ∷ ts ≡ [] = sym is ∙ k in cc,
    λ x j k.
        let same : k.0 ∷ texts j ≡ t ∷ ts = sym k.1 ∙ is in
        let first : t ≡ k.0 = cc in
        let others : texts j ≡ ts = cc in
        (k.2 c (subst (λ y. HasContent y c) first z.0), contents_come ts cs j others z.1),
  )

-- a token holds one text, which is symbols throughout
token_some : (t : Token) → IsToken t → (content : List ℕ) × HasContent t content
token_some t (inl w) = (t, inl (w, refl))
token_some t (inr q) = (flat_map bytes q.symbols, inr (q, refl))

token_one : (t : Token) (a b : List ℕ) → HasContent t a → HasContent t b → a ≡ b
token_one t a b (inl h) (inl k) = h.1 ∙ sym k.1
token_one t a b (inl h) (inr k) = absurd (word_first t h.0 (quote_first t k.0))
token_one t a b (inr h) (inl k) = absurd (word_first t k.0 (quote_first t h.0))
token_one t a b (inr h) (inr k) = h.1 ∙ sym (between_quotes t h.0) ∙ between_quotes t k.0 ∙ sym k.1

token_symbols : (t : Token) (content : List ℕ) → HasContent t content → IsSymbols content
token_symbols t content (inl h) = (h.0.symbols, subst (λ c. SymbolsOf c h.0.symbols None) (sym h.1) (word_symbols t h.0))
token_symbols t content (inr h) = (h.0.symbols, quote_symbols t content h.0 h.1)

pub contents_some : (tokens : List Token) → AllByRecursion IsToken tokens → (contents : List (List ℕ)) × HaveContents tokens contents
contents_some [] all = ([], tt)
contents_some (t ∷ ts) all = let one = token_some t all.0 in let more = contents_some ts all.1 in (one.0 ∷ more.0, (one.1, more.1))

pub contents_one : (tokens : List Token) (a b : List (List ℕ)) → HaveContents tokens a → HaveContents tokens b → a ≡ b
contents_one [] [] [] h k = refl
contents_one [] (x ∷ a) b h k = absurd h
contents_one [] [] (y ∷ b) h k = absurd k
contents_one (t ∷ ts) [] b h k = absurd h
contents_one (t ∷ ts) (x ∷ a) [] h k = absurd k
contents_one (t ∷ ts) (x ∷ a) (y ∷ b) h k = λ i. token_one t x y h.0 k.0 i ∷ contents_one ts a b h.1 k.1 i

pub contents_symbols : (tokens : List Token) (contents : List (List ℕ)) → HaveContents tokens contents → AllByRecursion IsSymbols contents
contents_symbols [] [] h = tt
contents_symbols [] (x ∷ a) h = absurd h
contents_symbols (t ∷ ts) [] h = absurd h
contents_symbols (t ∷ ts) (x ∷ a) h = (token_symbols t x h.0, contents_symbols ts a h.1)

-- the tokens of one entry
entry_tokens : (found : Entries) (place : ℕ) (tokens : List Token) → AllByRecursion (AllByRecursion IsToken) found → slice_get found place ≡ Some tokens → AllByRecursion IsToken tokens
entry_tokens [] place tokens all is = absurd (cc)
entry_tokens (e ∷ es) zero tokens all is = let same : e ≡ tokens = cc in subst (AllByRecursion IsToken) same all.0
entry_tokens (e ∷ es) (suc n) tokens all is = entry_tokens es n tokens all.1 is

-- of an entry with these tokens, what it holds is what they hold
pub held_at : (found : Entries) (place : ℕ) (tokens contents : List Token) → slice_get found place ≡ Some tokens → HoldsAt found place contents → HaveContents tokens contents
held_at found place tokens contents is h = let both : Some h.0 ≡ Some tokens = sym h.1 ∙ is in let same : h.0 ≡ tokens = cc in subst (λ (t : List Token). HaveContents t contents) same h.2

pub holds_only : (text : List ℕ) (found : Entries) (place : ℕ) (tokens : List Token) → Splits text found → slice_get found place ≡ Some tokens
    → (contents : List Token) × HoldsOnly found place contents × HaveContents tokens contents
holds_only text found place tokens splits is =
    let some = contents_some tokens (entry_tokens found place tokens (splits_into_tokens text found splits) is) in (
      some.0,
      record {
        holds = (tokens, is, some.1);
        only = λ other h. contents_one tokens other some.0 (held_at found place tokens other is h) some.1;
        symbols = contents_symbols tokens some.0 some.1;
      },
      some.1,
    )

-- the tokens of one entry of a list of entries
pub entry_is : {A : Type 0} (entries : List (Vec (String A) A)) (place : ℕ) (entry : Vec (String A) A) → slice_get entries place ≡ Some entry
    → slice_get (entries_of entries) place ≡ Some (texts entry.items)
entry_is entries place entry is = slice_get-map (λ e. texts e.items) entries place ∙ ap (option_map (λ e. texts e.items)) is

-- past the end nothing is held
pub none_held : {A : Type 0} (entries : List (Vec (String A) A)) (place : ℕ) (contents : List Token) → length entries ≤ place → HoldsAt (entries_of entries) place contents → ⊥
none_held entries place contents past h =
    let none : slice_get (entries_of entries) place ≡ None = slice_get-map (λ e. texts e.items) entries place ∙ ap (option_map (λ e. texts e.items)) (slice_get_past entries place past) in
    let some : slice_get (entries_of entries) place ≡ Some h.0 = h.1 in
    cc

-- what an entry holds of the entries that a text is known to split into
pub known_held : (text : List ℕ) (given found : Entries) (place : ℕ) (contents : List Token) → Splits text given → Splits text found → HoldsAt found place contents → HoldsAt given place contents
known_held text given found place contents splits other h = subst (λ (f : Entries). HoldsAt f place contents) (one_way text found given other splits) h
