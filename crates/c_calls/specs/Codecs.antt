-- The results of parsing and printing an encoded text.
use Rattle.std.specs.Prelude.{◌≡◌, ◌⊎◌, ℕ, ◌<◌, ◌≤◌, ◌^◌, List, length, take, drop}
use Rattle.dns_codec.specs.Base.{Base, encoded}
use Rattle.dns_codec.specs.Grammar.{Decodes}
use Rattle.dns_codec.specs.Outcome.{octet_count}
use Rattle.c_calls.specs.Reports.{number_of, CopiesWhole, ReportsFault, at_start}
use Rattle.c_calls.specs.declared.outcome.Outcome.{Outcome}
use Rattle.c_calls.specs.declared.outcome.Refusal.TheVariants.{NoRoom, TooLong, BadEncoding}

-- the text of the octets is returned; more octets than any memory holds are rejected
pub record PrintsOctets (b : Base) (octets old : List ℕ) (status : ℕ) (new : List ℕ) (outcome : Outcome) : Type 0 where
  pub short : length octets ≤ 2 ^ 60 → CopiesWhole (encoded b octets) old status new outcome
  pub long : 2 ^ 60 < length octets → ReportsFault (record { refusal = TooLong; place = 2 ^ 60 }) status outcome × (new ≡ old)

-- the value is at the start of the buffer; or the text is not of the encoding
abbrev pub ReportsValue : Base → List ℕ → ℕ → List ℕ → Outcome → Type 0
ReportsValue b text status new outcome =
    ((status ≡ 0) × (outcome ≡ record { length = octet_count b text; place = 0 }) × Decodes b text (take (octet_count b text) new))
    ⊎ (ReportsFault (at_start BadEncoding) status outcome × ((v : List ℕ) → Decodes b text v → ⊥))

-- if the octets of a text of this length fit, its value is returned; else their number, whatever
-- the text is, and nothing was written. The octets after them are unchanged
pub record DecodesText (b : Base) (text old : List ℕ) (status : ℕ) (new : List ℕ) (outcome : Outcome) : Type 0 where
  pub fits : octet_count b text ≤ length old → ReportsValue b text status new outcome
  pub lacks : length old < octet_count b text → (status ≡ number_of NoRoom) × (outcome ≡ record { length = octet_count b text; place = 0 }) × (new ≡ old)
  pub rest : drop (octet_count b text) new ≡ drop (octet_count b text) old
