use Rattle.std.proofs.Common.{codes, sym, ap, arith, rules}
use Rattle.script.specs.MoreCalls.{console_call_of}
use Rattle.text.proofs.Spelled.{spelled}
use Rattle.script.proofs.console_call.ConsoleCall.named.Goals as goal

pub returns-in-admitx : goal.returns-in-admitx
returns-in-admitx c = ap console_call_of (sym (spelled c.args.name.now (codes "admitx") (omega arith) (search rules)))

pub returns-in-status : goal.returns-in-status
returns-in-status c = ap console_call_of (sym (spelled c.args.name.now (codes "status") (omega arith) (search rules)))

pub returns-in-withdraw : goal.returns-in-withdraw
returns-in-withdraw c = ap console_call_of (sym (spelled c.args.name.now (codes "withdraw") (omega arith) (search rules)))

pub returns-in-readback : goal.returns-in-readback
returns-in-readback c = ap console_call_of (sym (spelled c.args.name.now (codes "readback") (omega arith) (search rules)))
