-- What a reply that wasn't written whole leaves (this project's rule).
use Rattle.std.specs.Prelude.{◌≡◌, ℕ, List}
use Rattle.http_wire.specs.Sink.{GetsPart}
use Rattle.http_wire.specs.Stream.{ShownStream}
use Rattle.http_wire.specs.declared.reply.ReplyFault.{ReplyFault}
use Rattle.http_wire.specs.declared.reply.ReplyFault.TheVariants.{OutOfMemory, WriteFault}

-- nothing was written; or a proper prefix, and the count rose
abbrev pub FailsReply : ReplyFault → List ℕ → ShownStream → ShownStream → Type 0
FailsReply OutOfMemory bytes before after = after ≡ before
FailsReply WriteFault bytes before after = GetsPart bytes before after
