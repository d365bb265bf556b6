-- Nothing comes after the last edge, or the line after it is told.
use Rattle.sheet.proofs.Puts.{clip-more, clip-read}
use Rattle.sheet.proofs.after_clip.Goals as goal

pub returns-then-clip-bytes : goal.returns-then-clip-bytes
returns-then-clip-bytes c l m hl hm =
    let a = c.args in
    clip-more a.bytes.now a.operation l m a.subject.count a.clip.count a.clip.after hl hm c.if-clip-bytes.true

pub returns : goal.returns
returns c l m hl hm =
    let a = c.args in
    clip-read a.bytes.now a.operation l m a.subject.count a.clip.count a.clip.after hl hm c.if-clip-bytes.false
