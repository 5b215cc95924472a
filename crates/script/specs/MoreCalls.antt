-- The calls of a script that read a line, and those on a console, by their names.
use Rattle.std.specs.Prelude.{ℕ, cond, List, Some, None, codes, Option}
use Rattle.std.specs.Str.{bytes_eq}
use Rattle.script.specs.declared.reading_call.ReadingCall.{ReadingCall}
use Rattle.script.specs.declared.reading_call.ReadingCall.TheVariants.{Read, ReadHex, Roles}
use Rattle.script.specs.declared.console_call.ConsoleCall.{ConsoleCall}
use Rattle.script.specs.declared.console_call.ConsoleCall.TheVariants.{Admit, AdmitHex, Issue, Acknowledge, Lost, Withdraw, Status, Readback}

abbrev pub reading_call_of : List ℕ → Option ReadingCall
reading_call_of name =
    cond (bytes_eq name (codes "read")) (Some Read)
    (cond (bytes_eq name (codes "readx")) (Some ReadHex)
    (cond (bytes_eq name (codes "roles")) (Some Roles) None))

abbrev pub console_call_of : List ℕ → Option ConsoleCall
console_call_of name =
    cond (bytes_eq name (codes "admit")) (Some Admit)
    (cond (bytes_eq name (codes "admitx")) (Some AdmitHex)
    (cond (bytes_eq name (codes "issue")) (Some Issue)
    (cond (bytes_eq name (codes "ack")) (Some Acknowledge)
    (cond (bytes_eq name (codes "lost")) (Some Lost)
    (cond (bytes_eq name (codes "withdraw")) (Some Withdraw)
    (cond (bytes_eq name (codes "status")) (Some Status)
    (cond (bytes_eq name (codes "readback")) (Some Readback) None)))))))
