-- The line is one of two words and their numbers, at the front.
use Rattle.std.proofs.Common.{arith, rules}
use Rattle.lister.specs.Text.{refused_text}
use Rattle.lister.proofs.Short.{refused_short}
use Rattle.lister.proofs.Placing.{put_front}
use Rattle.lister.proofs.text.put_refused.Goals as goal

pub put_counts-requires : goal.put_counts-requires
unfolding refused_text
put_counts-requires c =
    let short = refused_short c.from.result c.args.position (omega arith) (search rules) in
    omega arith

pub returns-clause-value : goal.returns-clause-value
unfolding refused_text
returns-clause-value c = rw c.from.ensures at (put_front c.put_counts.ensures).0

pub returns-clause-out_after : goal.returns-clause-out_after
unfolding refused_text
returns-clause-out_after c = rw c.from.ensures at (put_front c.put_counts.ensures).1
