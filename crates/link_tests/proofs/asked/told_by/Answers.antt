use denote.Param.Send.{sendable}
use Rattle.federation.proofs.http_link.HttpLink.TheSendSync as link
use Rattle.link_tests.proofs.DialSends.{dial_sends}
use Rattle.link_tests.proofs.asked.told_by.Goals as goal

-- a link over a dial in memory may go to another thread
pub ask_all-told-requires-send-L : goal.ask_all-told-requires-send-L
ask_all-told-requires-send-L g c κs within = search (dial_sends, link.the_send, sendable) depth 40
