use Rattle.std.proofs.Common.{refl}
use Rattle.std.proofs.lemmas.Result.{on_err_weaker}
use Rattle.rdata.specs.NsapRest.{nsap_word_form}
use Rattle.zone_record.proofs.PrintedTokens.{one_failed}
use Rattle.zone_record.proofs.rdata_print.write_nsap.Goals as goal

pub returns-clause-fails : goal.returns-clause-fails
returns-clause-fails g c = on_err_weaker c.write_token.result (one_failed _ _ _ _ _ (nsap_word_form.printed c.args.octets.now) refl) c.write_token.ensures.fails
