-- What was written is the reply that carries this, or a part of it.
use Rattle.std.proofs.Common.{ℕ, ◌+◌, ◌<◌, Bool, true, false, List, [], ◌++◌, Option, Some, Result, Ok, Err, refl, sym, ◌∙◌, subst, arith, length}
use Rattle.std.proofs.lemmas.List.{length-append}
use Rattle.std.proofs.Math.Seq.{take-append-add}
use Rattle.file_picture.specs.Agrees.{AgreesWithPicture}
use Rattle.index_lock.proofs.Prefixes.{prefix_self}
use Rattle.row_types.specs.Name.{NameFacts}
use Rattle.tree_trait.specs.Found.{Versions}
use Rattle.tree_trait.specs.Heard.{Heard}
use Rattle.tree_trait.specs.Shown.{ShownTree}
use Rattle.http_wire.specs.Reply.{head_bytes}
use Rattle.http_wire.specs.ReplyFault.{FailsReply}
use Rattle.http_wire.specs.Sink.{GetsAll}
use Rattle.http_wire.specs.Stream.{ShownStream}
use Rattle.http_wire.specs.declared.reply.ReplyFault.{ReplyFault}
use Rattle.http_wire.specs.declared.reply.ReplyFault.TheVariants as reply_fault
use Rattle.http_wire.proofs.Pieces.{gets_both, gets_then_part}
use Rattle.answer_check.specs.Checked.{CheckedFacts}
use Rattle.answer_core.specs.Loads.{Hand}
use Rattle.answer_core.specs.Local.{file_found}
use Rattle.answer_core.proofs.HearLemmas.{hears_none}
use Rattle.conn_server.specs.Bodies.{BodyFacts, body_facts, found_here}
use Rattle.conn_server.specs.Lawful.{IsBodySent, IsContentSent}
use Rattle.conn_server.specs.Pieces.{BreaksBody, cut_write, left_piece}
use Rattle.conn_server.specs.Replies.{Shows, bytes_of, reply_head}
use Rattle.conn_server.specs.Sent.{CanCarry, Delivers, Sends, SendsBehind, SendsBytes}
use Rattle.conn_server.specs.declared.body.Body.{Body}
use Rattle.conn_server.specs.declared.body.Body.TheVariants as kept
use Rattle.conn_server.specs.declared.reason.Reason.{Reason}
use Rattle.conn_server.specs.declared.send_fault.SendFault.{SendFault}
use Rattle.conn_server.specs.declared.send_fault.SendFault.TheVariants as sending
use Rattle.conn_server.proofs.PiecesLemmas.{part_in, pieces_of}

-- what is known of a file that is carried doesn't depend on a generation
pub carries_any : {F : Type 0} (opened : F → NameFacts) (version : Versions) (body : Body F) (m n : ℕ)
    → CanCarry version (body_facts opened m body) → CanCarry version (body_facts opened n body)
carries_any opened version (kept.File from file path) m n can = can
carries_any opened version _ m n can = tt

-- ---- bytes that are held

module _ (hand : Hand) (why : Reason) (carried : BodyFacts) (body : List ℕ) (file : Option (List ℕ)) (close with_body : Bool)
    (before after : ShownStream) (shows : Shows why carried body file) (content : IsContentSent hand.version carried body)
    (reads : IsBodySent carried with_body body []) where
  -- what came of its bytes
  held_delivers : (result : Result ℕ SendFault) → SendsBytes why body file close with_body before after result
      → Delivers hand carried with_body (bytes_of why body file close with_body) body [] [] before hand.start after result
  held_delivers (Ok len) wrote = (refl, wrote.0, wrote.1)
  held_delivers (Err (sending.Reply reply_fault.OutOfMemory)) wrote = (refl, wrote)
  held_delivers (Err (sending.Reply reply_fault.WriteFault)) wrote = (prefix_self [], wrote)
  held_delivers (Err (sending.Body cause)) wrote = absurd wrote

  pub sends_held : (result : Result ℕ SendFault) → SendsBytes why body file close with_body before after result
      → Sends hand why carried close with_body before hand.start after result
  sends_held result wrote = record {
    body = body;
    file = file;
    shows = shows;
    content = content;
    sent = [];
    reads = reads;
    heard = [];
    hears = hears_none hand;
    delivers = held_delivers result wrote;
  }

-- ---- a file

module _ (hand : Hand) (why : Reason) (from : CheckedFacts) (name : NameFacts) (path : List ℕ) (n : ℕ) (close : Bool) where
  -- what is carried
  abbrev file_here : BodyFacts
  file_here = found_here (file_found from name path n)

  -- the bytes of the head
  abbrev head_front : ℕ → List ℕ
  head_front len = head_bytes (reply_head why len (Some path) close)

  -- reads that give a body, where it is sent
  reads_of : (with_body : Bool) (b : List ℕ) → (sent : List Heard) × IsBodySent file_here with_body b sent
  reads_of true b = pieces_of name b
  reads_of false b = ([], refl)

  -- nothing was written, or a part of the head
  head_delivers : (with_body : Bool) (b : List ℕ) (sent : List Heard) (before after : ShownStream) (fault : ReplyFault)
      → AgreesWithPicture b from.picture → FailsReply fault (head_front from.picture.size) before after
      → Delivers hand file_here with_body (bytes_of why b (Some path) close with_body) b sent [] before hand.start after
      (Err (sending.Reply fault))
  head_delivers with_body b sent before after reply_fault.OutOfMemory is fails = (refl, fails)
  head_delivers true b sent before after reply_fault.WriteFault is fails = (
    (sent, refl),
    part_in (head_front (length b)) b
        (subst (λ (len : ℕ). FailsReply reply_fault.WriteFault (head_front len) before after) (sym is.sized) fails),
  )
  head_delivers false b sent before after reply_fault.WriteFault is fails = (
    (sent, refl),
    subst (λ (len : ℕ). FailsReply reply_fault.WriteFault (head_front len) before after) (sym is.sized) fails,
  )

  -- there was no memory for the head or the room, or a write of the head failed
  pub file_unsent : (with_body : Bool) (b : List ℕ) (before after : ShownStream) (fault : ReplyFault)
      → hand.version name.path name.stamp b → AgreesWithPicture b from.picture
      → FailsReply fault (head_front from.picture.size) before after
      → Sends hand why file_here close with_body before hand.start after (Err (sending.Reply fault))
  file_unsent with_body b before after fault known is fails =
      let all = reads_of with_body b in record {
        body = b;
        file = Some path;
        shows = (is, refl);
        content = λ one. known;
        sent = all.0;
        reads = all.1;
        heard = [];
        hears = hears_none hand;
        delivers = head_delivers with_body b all.0 before after fault is fails;
      }

  module _ (before mid after : ShownStream) (now : ShownTree) (head : GetsAll (head_front from.picture.size) before mid) where
    -- the head was written, of a body of this length
    front_sent : (body : List ℕ) → AgreesWithPicture body from.picture → GetsAll (head_front (length body)) before mid
    front_sent body is = subst (λ (len : ℕ). GetsAll (head_front len) before mid) (sym is.sized) head

    -- where the sending of the file broke off
    breaks_off : (body : List ℕ) (sent heard : List Heard) (end : SendFault) → AgreesWithPicture body from.picture
        → BreaksBody hand name from.picture body sent heard mid now after end
        → Delivers hand file_here true (head_front (length body) ++ body) body sent heard before now after (Err end)
    breaks_off body sent heard end is (cut_write goes part) = (goes, gets_then_part (front_sent body is) part)
    breaks_off body sent heard end is (left_piece stop at leaves gets) =
        let front : List ℕ = head_front (length body) in
        let below = leaves.below in
        let size = is.sized in
        let all = length-append front body in
        let under : at < length body = omega (arith, below, size) in record {
          get = refl;
          at = at;
          below = under;
          leaves = leaves;
          count = length front + at;
          left = omega (arith, under, all);
          gets = subst (λ (l : List ℕ). GetsAll l before after) (sym (take-append-add front body at))
              (gets_both (front_sent body is) gets);
        }

    -- what came of it
    pub file_sent : (with_body : Bool) (b : List ℕ) (result : Result ℕ SendFault) → hand.version name.path name.stamp b
        → AgreesWithPicture b from.picture → SendsBehind hand name from.picture with_body mid now after result
        → Sends hand why file_here close with_body before now after result
    file_sent true b (Ok len) known is s = record {
      body = s.0.body;
      file = Some path;
      shows = (s.0.agrees, refl);
      content = s.0.content;
      sent = s.0.sent;
      reads = s.0.read;
      heard = s.0.sent;
      hears = s.0.hears;
      delivers = (refl, gets_both (front_sent s.0.body s.0.agrees) s.0.gets, s.1 ∙ sym s.0.agrees.sized);
    }
    file_sent true b (Err end) known is s = record {
      body = s.body;
      file = Some path;
      shows = (s.agrees, refl);
      content = s.content;
      sent = s.sent;
      reads = s.read;
      heard = s.heard;
      hears = s.hears;
      delivers = breaks_off s.body s.sent s.heard end s.agrees s.breaks;
    }
    file_sent false b result known is s =
        subst (λ (r : Result ℕ SendFault). Sends hand why file_here close false before now after r) (sym s.none)
        (subst (λ (stream : ShownStream). Sends hand why file_here close false before now stream (Ok 0)) (sym s.same)
        (record {
          body = b;
          file = Some path;
          shows = (is, refl);
          content = λ one. known;
          sent = [];
          reads = refl;
          heard = [];
          hears = s.hears;
          delivers = (refl, front_sent b is, refl);
        }))
