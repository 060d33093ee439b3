mod Chunked
mod Laying
mod Answering
