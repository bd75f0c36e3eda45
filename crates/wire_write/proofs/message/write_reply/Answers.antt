use mathlib.Core.Path.{refl, sym, ap, ◌∙◌}
use mathlib.Core.Bool.{true}
use native.Mathlib.Omega.{arith}
use lib.ListN.{length}
use lib.Seq.{sets}
use Rattle.wire_write.proofs.Writes.{short, wrote, reply-bytes}
use Rattle.spec.specs.Layout.Message.{encode_reply}
use Rattle.wire_write.specs.Written.{reply_given}
use Rattle.wire_write.proofs.message.write_reply.Goals as goal

pub returns-then-out-lt9 : goal.returns-then-out-lt9
returns-then-out-lt9 c =
    short (encode_reply (reply_given c.args.reply)) c.args.out.now true refl (omega (arith, ap length (reply-bytes c.args.reply)))

pub returns : goal.returns
returns c =
    wrote (encode_reply (reply_given c.args.reply)) c.args.out.now true _ _ refl (omega (arith, ap length (reply-bytes c.args.reply))) (omega (arith, ap length (reply-bytes c.args.reply)))
    (c.put8.ensures ∙ (rw (c.put_byte.ensures, c.reply_code.ensures, c.reply_number.ensures) (ap (sets c.args.out.now 0) (sym (reply-bytes c.args.reply)))))
