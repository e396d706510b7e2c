use Rattle.rdata_fields.proofs.words.Ipv6ShownWord.from_text.Goals as goal

pub returns-in-Err : goal.returns-in-Err
returns-in-Err c = (c.in-Err.ensures.0, λ v. c.in-Err.ensures.1 v.0)
