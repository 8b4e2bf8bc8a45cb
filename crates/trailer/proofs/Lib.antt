pub mod Trailers
