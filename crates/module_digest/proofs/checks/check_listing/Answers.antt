use Rattle.module_digest.proofs.ModuleLemmas.{short_file}
use Rattle.module_digest.proofs.checks.check_listing.Goals as goal

pub check_text-requires : goal.check_text-requires
check_text-requires c =
    short_file c.args.directory.now c.listing.result c.in-Some.text.now c.known.ensures c.in-Some.ensures
