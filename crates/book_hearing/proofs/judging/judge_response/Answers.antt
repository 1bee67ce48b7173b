use Rattle.book_hearing.proofs.ReadingLemmas.{deliverable_is, lawful_back, read_back}
use Rattle.book_hearing.proofs.judging.judge_response.Goals as goal

pub returns-clause-deliverable : goal.returns-clause-deliverable
returns-clause-deliverable c =
    deliverable_is c.args.authority c.args.prepared.payload c.args.prepared.refused c.in-Read.kind c.in-Some.kind c.in-Read.version c.in-Read.nonce c.in-Read.parts
    (read_back c.args.prepared c.in-Read.kind c.in-Read.version c.in-Read.nonce c.in-Read.parts c.requires.prepared c.in-Read.is)
    c.in-Some.ensures.kind
    (lawful_back c.args.prepared c.in-Read.kind c.in-Read.version c.in-Read.nonce c.in-Read.parts c.requires.prepared c.in-Read.is)
