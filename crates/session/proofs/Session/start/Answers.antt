-- What a start gives is what its definition has, so it means the rules' start.
-- Assumes nothing.
use borrow.Author.Tests.{lt-ltb, le-ltb}
use Rattle.rules.specs.Lists.{If◌then◌else◌}
use Rattle.session.specs.Model.{unstarted, started_of}
use Rattle.session.proofs.Promises.{start_meant}
use Rattle.session.proofs.Session.start.Goals as goal

pub returns-then-client-gt-LAST_CLIENT-clause-start_means : goal.returns-then-client-gt-LAST_CLIENT-clause-start_means
unfolding unstarted started_of If◌then◌else◌
returns-then-client-gt-LAST_CLIENT-clause-start_means c = start_meant c.args.client _ (simp (c.unstarted.ensures, lt-ltb _ _ c.if-client-gt-LAST_CLIENT.true))

pub returns-clause-start_means : goal.returns-clause-start_means
unfolding unstarted started_of If◌then◌else◌
returns-clause-start_means c = start_meant c.args.client _ (simp (c.unstarted.ensures, le-ltb _ _ c.if-client-gt-LAST_CLIENT.false))
