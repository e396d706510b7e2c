use Rattle.std.proofs.Common.{refl}
use Rattle.std.proofs.lemmas.Result.{on_err_weaker, on_ok_weaker}
use Rattle.rdata.proofs.GenericLaws.{generic_tokens}
use Rattle.zone_record.proofs.PrintedTokens.{none_printed, more_printed, rest_printed, next_failed, rest_failed, on_err_of}
use Rattle.zone_record.proofs.rdata_print.write_generic.Goals as goal

pub returns-in_err-write_token-clause-fails : goal.returns-in_err-write_token-clause-fails
returns-in_err-write_token-clause-fails g c = on_err_of c.from_residual.result (next_failed _ _ _ _ _ _ _ _ _ (none_printed _ _ _ _) (generic_tokens c.args.octets.now) c.in_err-write_token.ensures.fails)

pub returns-in_err-write_token-2-clause-fails : goal.returns-in_err-write_token-2-clause-fails
returns-in_err-write_token-2-clause-fails g c =
    let first = more_printed _ _ _ _ _ _ _ _ _ (none_printed _ _ _ _) (generic_tokens c.args.octets.now) c.in_ok-write_token.ensures.blocks c.in_ok-write_token.ensures.gives in
    on_err_of c.from_residual-in_err-write_token-2.result (next_failed _ _ _ _ _ _ _ _ _ first refl c.in_err-write_token-2.ensures.fails)

pub returns-clause-gives : goal.returns-clause-gives
returns-clause-gives g c =
    let first = more_printed _ _ _ _ _ _ _ _ _ (none_printed _ _ _ _) (generic_tokens c.args.octets.now) c.in_ok-write_token.ensures.blocks c.in_ok-write_token.ensures.gives in
    let second = more_printed _ _ _ _ _ _ _ _ _ first refl c.in_ok-write_token-2.ensures.blocks c.in_ok-write_token-2.ensures.gives in
    on_ok_weaker c.write_digits.result (rest_printed _ _ _ _ _ _ _ second) c.write_digits.ensures.gives

pub returns-clause-fails : goal.returns-clause-fails
returns-clause-fails g c =
    let first = more_printed _ _ _ _ _ _ _ _ _ (none_printed _ _ _ _) (generic_tokens c.args.octets.now) c.in_ok-write_token.ensures.blocks c.in_ok-write_token.ensures.gives in
    let second = more_printed _ _ _ _ _ _ _ _ _ first refl c.in_ok-write_token-2.ensures.blocks c.in_ok-write_token-2.ensures.gives in
    on_err_weaker c.write_digits.result (rest_failed _ _ _ _ _ _ _ second) c.write_digits.ensures.fails
