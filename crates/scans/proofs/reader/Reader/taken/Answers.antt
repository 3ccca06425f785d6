use Rattle.scans.proofs.Judging.{return_taken}
use Rattle.scans.proofs.reader.Reader.taken.Goals as goal

pub returns-else-since-ge-MOST_RETURNS : goal.returns-else-since-ge-MOST_RETURNS
returns-else-since-ge-MOST_RETURNS c progress stands =
    let reader = c.args.self.now in
    return_taken reader.depth reader.since c.in-Some-Return.since c.args.line progress c.in-Some-Return.is-0 c.in-Some-Return.is-1 stands c.in_ok-check_inside-in-Some-Return.ensures c.if-since-ge-MOST_RETURNS.false
