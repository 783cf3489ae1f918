use Rattle.std.proofs.Common.{◌∙◌}
use Rattle.cut.proofs.Members.{contains_among}
use Rattle.cut.proofs.group.Group.has.Goals as goal

pub returns : goal.returns
returns c = c.contains.ensures ∙ contains_among c.args.id c.args.self.now.known.keys ∙ c.requires c.args.id
