pub mod PeerCalls
