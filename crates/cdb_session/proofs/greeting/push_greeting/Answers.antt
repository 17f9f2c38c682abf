use Rattle.cdb_session.proofs.greeting.push_greeting.Goals as goal

pub returns : goal.returns
returns c =
    rw (
      ← c.algorithm.ensures,
      ← c.algorithm_words-algorithm.ensures,
      ← c.version.ensures,
      ← c.loss_words-losses.ensures,
      ← c.n-n.ensures.value,
      ← c.process_word-processes.ensures,
      ← c.q-q.ensures,
    )
    c.writeln.ensures.bytes
