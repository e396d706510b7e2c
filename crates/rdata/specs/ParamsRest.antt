-- Service parameters (RFC 9460 section 2.1), which go to the end of an entry.
use Rattle.std.specs.Prelude.{map}
use Rattle.rdata_svcb.specs.Params.{params_of}
use Rattle.rdata_svcb.specs.ParamsFaults.{AreRightParams}
use Rattle.rdata_svcb.specs.ParamRefusals.{ExceedsParams, ParamsReason}
use Rattle.rdata_svcb.specs.ParamTokens.{SpellsParams}
use Rattle.rdata_svcb.specs.ShownParams.{param_text}
use Rattle.rdata_tokens.specs.Spelling.{AreOctetValues}
use Rattle.rdata.specs.GatewayKeys.{plain_word}
use Rattle.rdata.specs.Rests.{RestForm}

-- parameters in any order, each key once; they print in ascending order of keys, each as one word
abbrev pub params_form : RestForm
params_form = record {
  spells = SpellsParams;
  exceeds = ExceedsParams;
  reason = ParamsReason;
  is_wire = λ octets. AreOctetValues octets × AreRightParams octets;
  printed = λ octets. map (λ p. plain_word (param_text p)) (params_of octets);
}
