use Rattle.world_check.proofs.tests.opens_lawful.Goals as goal

pub is_lawful-requires-clause-right : goal.is_lawful-requires-clause-right
is_lawful-requires-clause-right c = c.in-Ok.ensures.right c.args.scale
