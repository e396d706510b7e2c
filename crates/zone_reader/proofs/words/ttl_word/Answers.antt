use Rattle.zone_reader.proofs.words.ttl_word.Goals as goal

pub returns-in-Err : goal.returns-in-Err
returns-in-Err c = λ n h. c.in-Err.ensures.1 h.1.0 h.1.1
