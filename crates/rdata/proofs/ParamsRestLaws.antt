-- Service parameters that are rejected, and those that are printed.
use Rattle.std.proofs.Common.{ℕ, List, [], ◌∷◌, map}
use Rattle.std.specs.Prelude.{◌≡◌, Result, Ok, Err, OnOk, OnErr, IfErr}
use Rattle.dns_octets.specs.Room.{Room}
use Rattle.dns_octets.specs.Appending.{Extends, Gains}
use Rattle.rdata_svcb.specs.Params.{params_of}
use Rattle.rdata_svcb.specs.ParamRefusals.{RefusesParams}
use Rattle.rdata_svcb.specs.ParamTokens.{SpellsParams}
use Rattle.rdata_svcb.specs.ParamsBack.{AreShownParams}
use Rattle.rdata_svcb.specs.ShownParams.{param_text}
use Rattle.rdata_fields.specs.declared.record_error.RecordError.{RecordError}
use Rattle.rdata_svcb.proofs.ShownBack.{params_read_back}
use Rattle.dns_lexer.specs.EntryTokens.{TokenSeen}
use Rattle.rdata.specs.GatewayKeys.{plain_word}
use Rattle.rdata.specs.ParamsRest.{params_form}
use Rattle.rdata.specs.Rests.{ArePrinted, ParsesTail}

pub params_taken : (room : Room) (end : ℕ) (tokens left : List TokenSeen) (old new : List ℕ) (r : Result (Unit {0}) RecordError) → OnOk r (Gains (SpellsParams tokens) old new) → OnOk r (left ≡ [])
    → IfErr r (λ e. RefusesParams room end tokens old e left) → OnErr r (Extends old new) → ParsesTail room params_form end tokens old r left new
params_taken room end tokens left old new (Ok x) gains none why more = (none, gains)
params_taken room end tokens left old new (Err r) gains none why more = record { at = why.0; why = why.1; extends = more }

words_of : (params : List (ℕ × List ℕ)) (tokens : List TokenSeen) → ArePrinted (map (λ p. plain_word (param_text p)) params) tokens → AreShownParams params tokens
words_of [] [] h = tt
words_of [] (t ∷ ts) h = absurd h
words_of (p ∷ ps) [] h = absurd h
words_of (p ∷ ps) (t ∷ ts) h = ((h.0, h.2), h.1, words_of ps ts h.3)

-- what parameters print as spells them
pub params_back : (octets : List ℕ) (tokens : List TokenSeen) → params_form.is_wire octets → ArePrinted (params_form.printed octets) tokens → params_form.spells tokens octets
params_back octets tokens is h = params_read_back octets tokens is.0 is.1 (words_of (params_of octets) tokens h)
