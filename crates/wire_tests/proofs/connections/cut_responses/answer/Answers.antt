use denote.Param.Send.{sendable}
use Rattle.federation.proofs.http_link.HttpLink.TheSendSync as link
use Rattle.wire_tests.proofs.DialSends.{dial_sends}
use Rattle.wire_tests.proofs.connections.cut_responses.answer.Goals as goal

-- a link over a dial in memory may go to another thread
pub is_replied-is_wanted-requires-send-L : goal.is_replied-is_wanted-requires-send-L
is_replied-is_wanted-requires-send-L g c κs within = search (dial_sends, link.the_send, sendable) depth 40
