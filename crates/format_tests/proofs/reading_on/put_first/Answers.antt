use Rattle.format_tests.proofs.ReadOn.{on_more}
use Rattle.format_tests.proofs.reading_on.put_first.Goals as goal

pub returns-in-Some : goal.returns-in-Some
returns-in-Some g c = λ p on.
    let put = c.put_run.ensures in
    on_more p c.args.picture.now c.put_run.new.picture c.args.at c.args.len c.in-Some.from c.in-Some.run' put.0 on c.in-Some.ensures put.1 put.2 put.3
