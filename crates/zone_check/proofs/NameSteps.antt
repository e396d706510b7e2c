-- Findings about names, one name after another.
use Rattle.std.proofs.Common.{◌≡◌, ℕ, ◌+◌, ◌<◌, ◌≤◌, ◌||◌, Bool, true, false, cond, List, [], ◌∷◌, ◌++◌, Option, Some, None, map, length, drop, get_or, take, option_to_list, if◌then◌else◌, refl, sym, ap, ◌∙◌, append_assoc, drop_of_length-le}
use Rattle.std.proofs.lemmas.List.{append-nil, drop_more}
use Rattle.std.specs.List.{filter}
use Rattle.dns_lexer.specs.EntryTokens.{TokenSeen, token_seen}
use Rattle.dns_lexer.specs.declared.entry_tokens.EntryToken.{EntryToken}
use Rattle.rdata_values.specs.declared.types.RecordType.{RecordType}
use Rattle.finding_codes.specs.declared.code.Code.{Code}
use Rattle.finding_codes.specs.declared.code.Code.TheVariants.{MissingDot, NoOrigin}
use Rattle.zone_check.specs.declared.finding.About.TheVariants.{Token}
use Rattle.zone_check.specs.declared.finding.EntryFinding.{EntryFinding}
use Rattle.zone_check.specs.FindingSpans.{finding_of_token}
use Rattle.zone_check.specs.NameFindings.{data_names, field_code, is_generic_token, is_name_field, is_no_origin, is_relative, may_lack_dot, name_code, name_finding, name_findings}

pub all_found : (found rest all : List EntryFinding) → rest ≡ [] → found ++ rest ≡ all → found ≡ all
all_found found rest all none is = sym (append-nil found) ∙ ap (λ l. found ++ l) (sym none) ∙ is

or_false : (r : Bool) → (r || false) ≡ r
or_false true = refl
or_false false = refl

module _ (origin : List ℕ) where
  no_names : (a r : Bool) → name_findings origin a r [] ≡ []
  no_names true true = refl
  no_names true false = refl
  no_names false r = refl

  below_root : (b : Bool) (t : TokenSeen) (names : List TokenSeen)
      → map (finding_of_token NoOrigin Token) (take 1 (cond b (t ∷ filter is_relative names) (filter is_relative names)))
      ≡ option_to_list (name_finding (if b then Some NoOrigin else None) t) ++ name_findings origin true (is_no_origin (if b then Some NoOrigin else None)) names
  below_root true t names = refl
  below_root false t names = refl

  with_origin : (b r : Bool) (t : TokenSeen) (names : List TokenSeen)
      → map (finding_of_token MissingDot Token) (cond b (t ∷ filter (may_lack_dot origin) names) (filter (may_lack_dot origin) names))
      ≡ option_to_list (name_finding (if b then Some MissingDot else None) t) ++ name_findings origin false r names
  with_origin true r t names = refl
  with_origin false r t names = refl

  pub next_name : (a r : Bool) (t : TokenSeen) (names : List TokenSeen)
      → name_findings origin a r (t ∷ names) ≡ option_to_list (name_finding (name_code origin a r t) t) ++ name_findings origin a (r || is_no_origin (name_code origin a r t)) names
  next_name true true t names = refl
  next_name true false t names = below_root (is_relative t) t names
  next_name false r t names = with_origin (may_lack_dot origin t) (r || is_no_origin (name_code origin false r t)) t names

  by_field : (a r generic is_name : Bool) (t : TokenSeen) (later : List TokenSeen) → generic ≡ false
      → name_findings origin a r (if generic then [] else (if is_name then t ∷ later else later))
      ≡ option_to_list (name_finding (if is_name then name_code origin a r t else None) t) ++ name_findings origin a (r || is_no_origin (if is_name then name_code origin a r t else None)) later
  by_field a r true is_name t later h = absurd (let e : true ≡ false = h in cc)
  by_field a r false true t later h = next_name a r t later
  by_field a r false false t later h = ap (λ b. name_findings origin a b later) (sym (or_false r))

  by_mark : (a r generic is_name : Bool) (t : TokenSeen) (later : List TokenSeen) → generic ≡ true → name_findings origin a r (if generic then [] else (if is_name then t ∷ later else later)) ≡ []
  by_mark a r true is_name t later h = no_names a r
  by_mark a r false is_name t later h = absurd (let e : false ≡ true = h in cc)

  module _ (rtype : RecordType) (words : List EntryToken) where
    -- the findings about the names from the token with an index on
    abbrev pub rest_findings : (a r : Bool) → ℕ → List EntryFinding
    rest_findings a r i = name_findings origin a r (data_names rtype i (map token_seen (drop i words)))

    module _ (i : ℕ) (d : EntryToken) (lt : i < length words) (a r : Bool) where
      abbrev seen : TokenSeen
      seen = token_seen (get_or words i d)

      at_token : rest_findings a r i ≡ name_findings origin a r (data_names rtype i (seen ∷ map token_seen (drop (i + 1) words)))
      at_token = ap (λ l. name_findings origin a r (data_names rtype i (map token_seen l))) (drop_more words i d lt)

      pub none_in_generic : is_generic_token seen ≡ true → rest_findings a r i ≡ []
      none_in_generic h = at_token ∙ by_mark a r (is_generic_token seen) (is_name_field rtype i) seen (data_names rtype (i + 1) (map token_seen (drop (i + 1) words))) h

      pub next_word : (a2 r2 : Bool) (code : Option Code) (f : Option EntryFinding) (found new all : List EntryFinding) → is_generic_token seen ≡ false
          → code ≡ field_code origin a r rtype i seen → f ≡ name_finding code seen → new ≡ found ++ option_to_list f → a2 ≡ a → r2 ≡ (r || is_no_origin code)
          → found ++ rest_findings a r i ≡ all → new ++ rest_findings a2 r2 (i + 1) ≡ all
      next_word a2 r2 code f found new all plain coded is pushed root reached before =
          let rest : Bool → List EntryFinding = λ b. rest_findings a b (i + 1) in
          let named : Option EntryFinding = name_finding (field_code origin a r rtype i seen) seen in
          let told : Bool = r || is_no_origin (field_code origin a r rtype i seen) in
          let step : rest_findings a r i ≡ option_to_list named ++ rest told
          = at_token ∙ by_field a r (is_generic_token seen) (is_name_field rtype i) seen (data_names rtype (i + 1) (map token_seen (drop (i + 1) words))) plain in
          ap (λ x. new ++ rest_findings x r2 (i + 1)) root ∙ ap (λ l. l ++ rest r2) pushed
          ∙ ap (λ b. (found ++ option_to_list f) ++ rest b) (reached ∙ ap (λ k. r || is_no_origin k) coded)
          ∙ ap (λ o. (found ++ option_to_list o) ++ rest told) (is ∙ ap (λ k. name_finding k seen) coded)
          ∙ append_assoc found (option_to_list named) (rest told) ∙ ap (λ l. found ++ l) (sym step) ∙ before

    pub none_left : (i : ℕ) (a r : Bool) → length words ≤ i → rest_findings a r i ≡ []
    none_left i a r end = ap (λ l. name_findings origin a r (data_names rtype i (map token_seen l))) (drop_of_length-le words end) ∙ no_names a r

  -- a record with an owner of its own
  pub after_own_owner : (rtype : RecordType) (old found new : List EntryFinding) (a r a2 r2 : Bool) (t : TokenSeen) (words : List TokenSeen) (code : Option Code) (f : Option EntryFinding)
      → code ≡ name_code origin a r t → f ≡ name_finding code t → a2 ≡ a → r2 ≡ (r || is_no_origin code) → found ≡ old ++ option_to_list f
      → new ≡ found ++ name_findings origin a2 r2 (data_names rtype 0 words) → new ≡ old ++ name_findings origin a r (t ∷ data_names rtype 0 words)
  after_own_owner rtype old found new a r a2 r2 t words code f coded is root reached pushed later =
      let rest : Bool → Bool → List EntryFinding = λ x y. name_findings origin x y (data_names rtype 0 words) in
      let named : Option EntryFinding = name_finding (name_code origin a r t) t in
      let told : Bool = r || is_no_origin (name_code origin a r t) in
      later ∙ ap (λ l. l ++ rest a2 r2) pushed
      ∙ ap (λ x. (old ++ option_to_list f) ++ rest x r2) root
      ∙ ap (λ y. (old ++ option_to_list f) ++ rest a y) (reached ∙ ap (λ k. r || is_no_origin k) coded)
      ∙ ap (λ k. (old ++ option_to_list k) ++ rest a told) (is ∙ ap (λ k. name_finding k t) coded)
      ∙ append_assoc old (option_to_list named) (rest a told) ∙ ap (λ l. old ++ l) (sym (next_name a r t (data_names rtype 0 words)))
