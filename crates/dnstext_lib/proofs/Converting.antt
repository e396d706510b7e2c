-- From the result of a converter to the line that is printed of it.
use Rattle.std.proofs.Common.{◌≡◌, List, ℕ, refl, Result}
use Rattle.std.proofs.Common.{Ok, Err}
use Rattle.std.specs.Prelude.{MatchResult}
use Rattle.dns_symbol.specs.Cause.{Cause}
use Rattle.dns_octets.specs.Room.{Room}
use Rattle.dns_codec.specs.Base.{Base}
use Rattle.dns_codec.specs.Converting.{ConverterState, new_converter, Makes, convert, convert_tail}
use Rattle.dns_scan.specs.Entries.{Converts, ConvertToken}
use Rattle.dns_scan.specs.Tokens.{Token}
use Rattle.dns_zone.proofs.EntryConverting.{base_answer}
use Rattle.dnstext_lib.proofs.Fielding.{octets_stop}
use Rattle.dns_zone.specs.EntryCodecs.{Codec, ConvertsTo, OctetsPrint, codec_of}
use Rattle.dnstext_lib.specs.Program.{LineBy, OctetsLine, OctetsStop}
use Rattle.dnstext_lib.specs.declared.program.RunError.{RunError}
use Rattle.dnstext_lib.specs.declared.program.RunError.TheVariants.{Refused, WriteFailed}

module _ {E : Type 0} (cause : E → Cause) where
  -- the line that is printed of an answer that is what the token converts to
  pub octets_line : {O : Type 0} (took : O → List ℕ → O → Type 0) (codec : Codec) (token : Token) (runs : Result (List ℕ) E → Type 0)
      → ((r : Result (List ℕ) E) → runs r → MatchResult r (λ o. ConvertsTo codec token (Ok o)) (λ e. OctetsStop codec token (cause e)))
      → (o : O) (r : Result (Unit {0}) (RunError E)) (p : O) → OctetsLine took runs o r p → LineBy cause took (OctetsPrint codec) (OctetsStop codec) token o r p
  octets_line took codec token runs shows o (Ok u) p h = (_, (h.0, shows (Ok h.0) h.1, refl), h.2)
  octets_line took codec token runs shows o (Err (Refused e)) p h = (shows (Err e) h.0, h.1)
  octets_line took codec token runs shows o (Err WriteFailed) p h = (_, (h.0, shows (Ok h.0) h.1, refl))

  -- the result of a converter: what the token converts to, or its error, or too little capacity for what was made
  pub base_stops : (room : Room) (b : Base) (token : Token) (start : ConverterState) (r : Result (List ℕ) E) → start ≡ new_converter
      → Converts cause room (λ s r after. Makes cause (convert_tail b s.group s.failed) r after) (λ s. s)
      (λ p a q. ConvertToken cause room (λ s x r after. Makes cause (convert b s.group s.failed x) r after) p token a q) start r
      → MatchResult r (λ o. ConvertsTo (codec_of b) token (Ok o)) (λ e. OctetsStop (codec_of b) token (cause e))
  base_stops room b token start (Ok o) new h = (base_answer cause room b (λ s. s) token start (Ok o) new h).2.0
  base_stops room b token start (Err e) new h = octets_stop (codec_of b) token (cause e) (base_answer cause room b (λ s. s) token start (Err e) new h)
