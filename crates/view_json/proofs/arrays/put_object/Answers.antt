-- An object more.
use Rattle.view_json.proofs.Opened.{put_more}
use Rattle.view_json.proofs.arrays.put_object.Goals as goal

pub returns : goal.returns
returns c = λ d is ds given. put_more ds d c.args.object.now _ _ c.in_ok-put_line.ensures is given
