-- The address of a network service (NSAP, RFC 1706), the one token of an entry.
use Rattle.std.specs.Prelude.{ℕ, ◌≡◌, ◌≢◌, ◌⊎◌, true, false, List, [], length}
use Rattle.dns_lexer.specs.EntryTokens.{TokenSeen}
use Rattle.rdata_tokens.specs.Spelling.{AreOctetValues}
use Rattle.rdata_tails.specs.Nsap.{BeginsNsap, NsapFault, SpellsNsap, nsap_text}
use Rattle.rdata_values.specs.declared.error.ErrorKind.{ErrorKind}
use Rattle.rdata_values.specs.declared.error.ErrorKind.TheVariants.{Quoted}
use Rattle.rdata.specs.OneToken.{one_form}
use Rattle.rdata.specs.Rests.{RestForm}
use Rattle.rdata.specs.TokenForms.{TokenForm}

-- why a token is not an address: it is a quoted string; or it is a word, and its text spells none
abbrev pub NsapReason : TokenSeen → ErrorKind → Type 0
NsapReason t e = ((e ≡ Quoted) × (t.is_quoted ≡ true)) ⊎ ((t.is_quoted ≡ false) × NsapFault t.text e × ((octets : List ℕ) → SpellsNsap t.text octets → ⊥))

-- an address as a word; it has one octet or more
abbrev pub nsap_word_form : TokenForm
nsap_word_form = record {
  spells = λ t octets. (t.is_quoted ≡ false) × SpellsNsap t.text octets;
  begins = λ t octets. (t.is_quoted ≡ false) × BeginsNsap t.text octets;
  reason = NsapReason;
  is_wire = λ octets. AreOctetValues octets × (octets ≢ []);
  width = length;
  printed = λ octets. record { is_quoted = false; text = nsap_text octets };
}

abbrev pub nsap_form : RestForm
nsap_form = one_form nsap_word_form
